use Rattle.std.proofs.Common.{◌≡◌, ◌+◌, ◌-◌, ℕ, refl, subst}
use Rattle.s2cell.specs.Rectangles.{Rect, rect_set}
use Rattle.s2cover.specs.Coverings.{outer_set}
use Rattle.s2cover.proofs.Rounded.{widened_outer, widened_aligned, widened_rect}
use Rattle.s2cover.proofs.Squares.{rounded}
use Rattle.s2cover.proofs.rounding.round_outward.Goals as goal

pub invariant_of-result : goal.invariant_of-result
invariant_of-result c =
    let s = c.side_of-side.ensures.value in
    widened_rect (record {
      face = c.rect.inside.face;
      i0 = c.round_down.result;
      i1 = c.round_down-2.result + (c.side_of-side.result - 1);
      j0 = c.round_down-3.result;
      j1 = c.round_down-4.result + (c.side_of-side.result - 1);
    }) c.args.level c.rect.invariant refl (rounded s c.round_down.ensures.value c.round_down-2.ensures.value)
    (rounded s c.round_down-3.ensures.value c.round_down-4.ensures.value)

pub returns-clause-leaves : goal.returns-clause-leaves
returns-clause-leaves c =
    let s = c.side_of-side.ensures.value in
    let t : Rect = record {
      face = c.rect.inside.face;
      i0 = c.round_down.result;
      i1 = c.round_down-2.result + (c.side_of-side.result - 1);
      j0 = c.round_down-3.result;
      j1 = c.round_down-4.result + (c.side_of-side.result - 1);
    } in
    subst (λ (v : Rect). (x : ℕ) → rect_set t x ≡ outer_set (rect_set v) c.args.level x) c.rect.view_is
    (widened_outer t c.args.level c.rect.invariant refl
    (rounded s c.round_down.ensures.value c.round_down-2.ensures.value)
    (rounded s c.round_down-3.ensures.value c.round_down-4.ensures.value))

pub returns-clause-aligned : goal.returns-clause-aligned
returns-clause-aligned c =
    let s = c.side_of-side.ensures.value in
    widened_aligned _ c.args.level c.rect.invariant refl
    (rounded s c.round_down.ensures.value c.round_down-2.ensures.value)
    (rounded s c.round_down-3.ensures.value c.round_down-4.ensures.value)
