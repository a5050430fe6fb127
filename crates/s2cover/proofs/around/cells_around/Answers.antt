use Rattle.std.proofs.Common.{◌≡◌, ◌-◌, ◌^◌, ◌<◌, ◌∙◌, max, true, subst, sym}
use Rattle.std.proofs.lemmas.List.Sorted.{list_any-IsPermutation}
use Rattle.s2cell.specs.Cell.{covers}
use Rattle.s2cell.specs.Rectangles.{Rect, rect_set}
use Rattle.s2cover.proofs.Corners.{four_around}
use Rattle.s2cover.proofs.around.cells_around.Goals as goal

pub returns : goal.returns
returns c x t =
    let g = 30 - c.level_around-level.result in
    let r : Rect = record {
      face = c.rect.inside.face;
      i0 = c.rect.inside.i0;
      i1 = c.rect.inside.i1;
      j0 = c.rect.inside.j0;
      j1 = c.rect.inside.j1;
    } in
    let wide = subst (λ (v : Rect). max (v.i1 - v.i0) (v.j1 - v.j0) < 2 ^ g) (sym c.rect.view_is)
    c.level_around-level.ensures.wide in
    let there = subst (λ (v : Rect). rect_set v x ≡ true) (sym c.rect.view_is) t in
    sym (list_any-IsPermutation (λ d. covers d x) _ _ c.sort_unstable.ensures.permutation)
    ∙ four_around r _ _ _ _ g wide c.corner.ensures c.corner-2.ensures c.corner-3.ensures c.corner-4.ensures x there
