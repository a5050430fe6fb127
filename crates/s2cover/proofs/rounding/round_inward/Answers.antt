use Rattle.std.proofs.Common.{◌≡◌, ◌+◌, ◌-◌, ◌≤◌, ◌⊎◌, inl, inr, ℕ, false, arith, refl, ◌∙◌, subst}
use Rattle.s2cell.specs.Rectangles.{Rect, rect_set}
use Rattle.s2cover.specs.Coverings.{inner_set}
use Rattle.s2cover.proofs.Rounded.{narrowed_inner, narrowed_aligned, narrowed_empty}
use Rattle.s2cover.proofs.Squares.{narrowed}
use Rattle.s2cover.proofs.rounding.round_inward.Goals as goal
use Rattle.s2cover.proofs.rounding.round_inward.Goals.{else-i0-i_end-via-then-i0-i_end+else-j0-j_end}
use Rattle.s2cover.proofs.rounding.round_inward.Goals.{else-i0-i_end-via-else-i0-i_end}

pub returns-then-j0-j_end-clause-leaves : goal.returns-then-j0-j_end-clause-leaves
returns-then-j0-j_end-clause-leaves c =
    let s = c.side_of-side.ensures.value in
    let t : Rect = record {
      face = c.rect.inside.face;
      i0 = c.round_down-i0.result;
      i1 = c.round_down-i_end.result - 1;
      j0 = c.round_down-j0.result;
      j1 = c.round_down-j_end.result - 1;
    } in
    let bi = c.if-i0-i_end.true in
    let bj = c.if-j0-j_end.true in
    let ei : c.round_down-i_end.result - 1 + 1 ≡ c.round_down-i_end.result = omega arith in
    let ej : c.round_down-j_end.result - 1 + 1 ≡ c.round_down-j_end.result = omega arith in
    subst (λ (v : Rect). (x : ℕ) → rect_set t x ≡ inner_set (rect_set v) c.args.level x) c.rect.view_is
    (narrowed_inner _ t c.args.level c.rect.invariant.face refl
    (narrowed s c.round_down-i0.ensures.value (ei ∙ c.round_down-i_end.ensures.value))
    (narrowed s c.round_down-j0.ensures.value (ej ∙ c.round_down-j_end.ensures.value)))

pub returns-then-j0-j_end-clause-aligned : goal.returns-then-j0-j_end-clause-aligned
returns-then-j0-j_end-clause-aligned c =
    let s = c.side_of-side.ensures.value in
    let bi = c.if-i0-i_end.true in
    let bj = c.if-j0-j_end.true in
    let ei : c.round_down-i_end.result - 1 + 1 ≡ c.round_down-i_end.result = omega arith in
    let ej : c.round_down-j_end.result - 1 + 1 ≡ c.round_down-j_end.result = omega arith in
    narrowed_aligned _ _ c.args.level refl
    (narrowed s c.round_down-i0.ensures.value (ei ∙ c.round_down-i_end.ensures.value))
    (narrowed s c.round_down-j0.ensures.value (ej ∙ c.round_down-j_end.ensures.value))

pub returns-else-i0-i_end-clause-none : goal.returns-else-i0-i_end-clause-none
returns-else-i0-i_end-clause-none c e =
    let s = c.side_of-side.ensures.value in
    let none : (c.round_down-i_end.result ≤ c.round_down-i0.result)
    ⊎ (c.round_down-j_end.result ≤ c.round_down-j0.result) =
    elim c.else-i0-i_end.branch [
      | else-i0-i_end-via-then-i0-i_end+else-j0-j_end w ↦ let n = w.if-j0-j_end.false in inr (omega arith)
      | else-i0-i_end-via-else-i0-i_end w ↦ let n = w.if-i0-i_end.false in inl (omega arith)
    ] in
    subst (λ (v : Rect). (x : ℕ) → inner_set (rect_set v) c.args.level x ≡ false) c.rect.view_is
    (narrowed_empty _ c.args.level
    (narrowed s c.round_down-i0.ensures.value c.round_down-i_end.ensures.value)
    (narrowed s c.round_down-j0.ensures.value c.round_down-j_end.ensures.value) none)
