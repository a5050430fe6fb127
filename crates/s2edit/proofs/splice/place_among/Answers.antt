use Rattle.std.proofs.Common.{◌≡◌, ◌<◌, ◌≤◌, ℕ, sym, ap, ◌∙◌, arith}
use Rattle.std.proofs.Math.Logic.{⊎_elim}
use Rattle.std.proofs.lemmas.Bool.{cases_lt}
use Rattle.std.proofs.lemmas.Bool.Decides.{nat_tests}
use Rattle.s2cell.specs.Cell.{IsCell, level_of, place_of, child_of}
use Rattle.s2edit.proofs.Completing.{above_shallow, own_child}
use Rattle.s2edit.proofs.splice.place_among.Goals as goal

pub child-requires-clause-inner : goal.child-requires-clause-inner
child-requires-clause-inner c =
    let g : IsCell c.args.cell = (level_of c.args.cell, place_of c.args.cell, c.id.ensures.cell) in
    omega (arith, ap level_of c.requires.parent, above_shallow c.args.cell g c.requires.deep)

pub returns-then-eq-clause-child : goal.returns-then-eq-clause-child
returns-then-eq-clause-child c =
    let e : c.child.result ≡ c.args.cell = grind (arith, nat_tests, c.if-eq.ensures) in
    sym c.child.ensures ∙ e

pub loop-place-preserved : goal.loop-place-preserved
loop-place-preserved c = record {
  few = omega (arith, c.loop-place-test.true);
  others = λ i l e. ⊎_elim
      (λ (m : i < c.loop-place.place). c.loop-place.invariant.others i m e)
      (λ (m : c.loop-place.place ≤ i).
      let f : i ≡ c.loop-place.place = omega (arith, l, m) in
      let same : c.child.result ≡ c.args.cell = c.child.ensures ∙ ap (child_of c.args.parent) (sym f) ∙ e in
      grind (arith, nat_tests, c.if-eq.ensures, c.if-eq.false, same))
      (cases_lt i c.loop-place.place);
}

pub returns-clause-child : goal.returns-clause-child
returns-clause-child c =
    let g : IsCell c.args.cell = (level_of c.args.cell, place_of c.args.cell, c.id.ensures.cell) in
    let (i, l, e) = own_child c.args.cell g c.requires.deep in
    let f : child_of c.args.parent i ≡ c.args.cell = ap (λ (p : ℕ). child_of p i) c.requires.parent ∙ e in
    ⊎_elim
    (λ (m : i < c.loop-place.place). absurd (c.loop-place.invariant.others i m f))
    (λ (m : c.loop-place.place ≤ i).
    let same : c.loop-place.place ≡ i = omega (arith, l, m, c.loop-place-test.false, c.loop-place.invariant.few) in
    ap (child_of c.args.parent) same ∙ f)
    (cases_lt i c.loop-place.place)
