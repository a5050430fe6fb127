use Rattle.std.proofs.Common.{◌≡◌, ◌<◌, ◌≤◌, ℕ, true, get_or, sym, ap, ◌∙◌, subst, arith}
use Rattle.std.proofs.Math.Logic.{⊎_elim}
use Rattle.std.proofs.lemmas.Bool.{cases_lt, false≢true}
use Rattle.s2cell.specs.Cell.{level_of, place_of, child_of}
use Rattle.s2list.specs.Packed.{IsPlace}
use Rattle.s2union.specs.Apply.{has}
use Rattle.s2edit.specs.Working.Splice.{child_start}
use Rattle.s2edit.proofs.Completing.{one_up, is_next, at_had, all_end}
use Rattle.s2edit.proofs.splice.after_all.Goals as goal

pub child-requires-clause-inner : goal.child-requires-clause-inner
child-requires-clause-inner c = c.requires.inner

pub returns-then-not-is_at-clause-none : goal.returns-then-not-is_at-clause-none
returns-then-not-is_at-clause-none c e all =
    let u = c.args.list.now in
    let p = c.args.parent in
    let k = c.loop-later.later in
    let here = is_next u p k c.loop-later.to c.requires.local (level_of p, place_of p, c.id.ensures.cell)
    c.requires.inner c.loop-later-test.true c.loop-later.invariant.at
    (all k c.loop-later.invariant.more c.loop-later-test.true) in
    false≢true (sym c.if-not-is_at.true ∙ c.is_at.ensures.1 (here.0, here.1 ∙ sym c.child.ensures))

pub loop-later-preserved : goal.loop-later-preserved
loop-later-preserved c =
    let u = c.args.list.now in
    let p = c.args.parent in
    let k = c.loop-later.later in
    let there = c.is_at.ensures.0 c.if-not-is_at.false in
    let same : get_or u c.loop-later.to 0 ≡ child_of p k = there.1 ∙ c.child.ensures in
    record {
      few = omega (arith, c.loop-later-test.true);
      more = omega (arith, c.loop-later.invariant.more);
      at = one_up u p k c.loop-later.to c.requires.local (level_of p, place_of p, c.id.ensures.cell)
          c.requires.inner c.loop-later-test.true c.loop-later.invariant.at there.0 same;
      held = λ i a b. ⊎_elim
          (λ (l : i < k). c.loop-later.invariant.held i a l)
          (λ (l : k ≤ i).
          let f : k ≡ i = omega (arith, b, l) in
          subst (λ (j : ℕ). has u (child_of p j) ≡ true) f (at_had u c.loop-later.to (child_of p k) there.0 same))
          (cases_lt i k);
    }

pub returns-clause-last : goal.returns-clause-last
returns-clause-last c =
    let p = c.args.parent in
    let z : child_start p c.loop-later.later ≡ child_start p 4 =
    ap (child_start p) (omega (arith, c.loop-later-test.false, c.loop-later.invariant.few)) in
    subst (λ (x : ℕ). IsPlace c.args.list.now x c.loop-later.to)
    (z ∙ all_end p (level_of p, place_of p, c.id.ensures.cell) c.requires.inner) c.loop-later.invariant.at

pub returns-clause-held : goal.returns-clause-held
returns-clause-held c i a b = c.loop-later.invariant.held i a (omega (arith, b, c.loop-later-test.false))
