use Rattle.std.proofs.Common.{◌≡◌, ◌↔◌, inl, inr, ⊎_elim, ℕ, true, false, refl, subst}
use Rattle.s2cell.specs.Cell.{covers}
use Rattle.s2cell.specs.Rectangles.{Rect, rect_set}
use Rattle.s2cover.specs.declared.region.Part.TheVariants.{Out, In}
use Rattle.s2cover.proofs.Rectangles.{apart_or, out_from, out_to, in_from, in_to}
use Rattle.s2cover.proofs.rect.part_of.Goals as goal

pub returns-then-square-rect-clause-out : goal.returns-then-square-rect-clause-out
returns-then-square-rect-clause-out c d s =
    let q = c.args.square in
    subst (λ (r : Rect). (Out ≡ Out) ↔ ((x : ℕ) → covers d x ≡ true → rect_set r x ≡ false)) c.rect.view_is
    (λ _. out_from _ s (inl c.if-square-rect.true), λ _. refl)

pub returns-then-square-rect-clause-inside : goal.returns-then-square-rect-clause-inside
returns-then-square-rect-clause-inside c d s =
    let q = c.args.square in
    subst (λ (r : Rect). (Out ≡ In) ↔ ((x : ℕ) → covers d x ≡ true → rect_set r x ≡ true)) c.rect.view_is
    (λ e. cc, λ h. absurd (c.if-square-rect.true (in_to _ s h).on))

pub returns-clause-out : goal.returns-clause-out
returns-clause-out c d s =
    let q = c.args.square in
    let f = c.rect.inside in
    let first = c.span_part-first.ensures.out in
    let second = c.span_part-second.ensures.out in
    let both = c.both_parts.ensures.out in
    subst (λ (r : Rect). (c.both_parts.result ≡ Out) ↔ ((x : ℕ) → covers d x ≡ true → rect_set r x ≡ false))
    c.rect.view_is (
      λ e. out_from _ s (inr (⊎_elim (λ (a : c.span_part-first.result ≡ Out). inl (first.0 a))
          (λ (b : c.span_part-second.result ≡ Out). inr (second.0 b)) (both.0 e))),
      λ h. both.1 (⊎_elim (λ a. inl (first.1 a))
          (λ na. ⊎_elim (λ b. inr (second.1 b))
          (λ nb. absurd (out_to c.rect.invariant s c.if-square-rect.false na nb h))
          (apart_or f.j0 f.j1 q.j q.size)) (apart_or f.i0 f.i1 q.i q.size)),
    )

pub returns-clause-inside : goal.returns-clause-inside
returns-clause-inside c d s =
    let q = c.args.square in
    let first = c.span_part-first.ensures.inside in
    let second = c.span_part-second.ensures.inside in
    let both = c.both_parts.ensures.inside in
    subst (λ (r : Rect). (c.both_parts.result ≡ In) ↔ ((x : ℕ) → covers d x ≡ true → rect_set r x ≡ true))
    c.rect.view_is (
      λ e. let b = both.0 e in in_from _ s c.if-square-rect.false (first.0 b.0) (second.0 b.1),
      λ h. let w = in_to _ s h in both.1 (first.1 w.along, second.1 w.across),
    )
