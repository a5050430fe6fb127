use Rattle.std.proofs.Common.{◌≡◌, ◌+◌, ◌-◌, ◌<◌, ◌≤◌, ℕ, true, get_or, sym, ap, ◌∙◌, subst, arith}
use Rattle.std.proofs.Math.Logic.{⊎_elim}
use Rattle.std.proofs.lemmas.Bool.{cases_lt, false≢true}
use Rattle.s2cell.specs.Cell.{level_of, place_of, child_of}
use Rattle.s2list.specs.Packed.{IsPlace}
use Rattle.s2union.specs.Apply.{has}
use Rattle.s2edit.specs.Working.Splice.{child_start}
use Rattle.s2edit.proofs.Completing.{one_down, is_before, at_had, all_begin}
use Rattle.s2edit.proofs.splice.before_all.Goals as goal

pub child-requires-clause-inner : goal.child-requires-clause-inner
child-requires-clause-inner c = c.requires.inner

pub returns-then-from-eq0-clause-none : goal.returns-then-from-eq0-clause-none
returns-then-from-eq0-clause-none c e all =
    let u = c.args.list.now in
    let k = c.loop-left.left - 1 in
    let n : c.loop-left.left ≡ k + 1 = omega (arith, c.loop-left-test.true) in
    let low : k < c.args.place = omega (arith, n, c.loop-left.invariant.most) in
    let before = is_before u c.args.parent k c.loop-left.from c.requires.local
    (level_of c.args.parent, place_of c.args.parent, c.id.ensures.cell) c.requires.inner
    (omega (arith, low, c.requires.few))
    (subst (λ (j : ℕ). IsPlace u (child_start c.args.parent j) c.loop-left.from) n c.loop-left.invariant.at)
    (all k low) in
    absurd (omega (arith, before.0, c.if-from-eq0.true))

pub returns-then-not-is_at-clause-none : goal.returns-then-not-is_at-clause-none
returns-then-not-is_at-clause-none c e all =
    let u = c.args.list.now in
    let k = c.loop-left.left - 1 in
    let n : c.loop-left.left ≡ k + 1 = omega (arith, c.loop-left-test.true) in
    let low : k < c.args.place = omega (arith, n, c.loop-left.invariant.most) in
    let before = is_before u c.args.parent k c.loop-left.from c.requires.local
    (level_of c.args.parent, place_of c.args.parent, c.id.ensures.cell) c.requires.inner
    (omega (arith, low, c.requires.few))
    (subst (λ (j : ℕ). IsPlace u (child_start c.args.parent j) c.loop-left.from) n c.loop-left.invariant.at)
    (all k low) in
    let within = c.loop-left.invariant.at.within in
    false≢true (sym c.if-not-is_at.true ∙ c.is_at.ensures.1 (
      omega (arith, before.0, within),
      before.1 ∙ sym c.child.ensures,
    ))

pub loop-left-preserved : goal.loop-left-preserved
loop-left-preserved c =
    let u = c.args.list.now in
    let p = c.args.parent in
    let k = c.loop-left.left - 1 in
    let from = c.loop-left.from - 1 in
    let n : c.loop-left.left ≡ k + 1 = omega (arith, c.loop-left-test.true) in
    let m : c.loop-left.from ≡ from + 1 = omega (arith, c.if-from-eq0.false) in
    let low : k < c.args.place = omega (arith, n, c.loop-left.invariant.most) in
    let there = c.is_at.ensures.0 c.if-not-is_at.false in
    let same : get_or u from 0 ≡ child_of p k = there.1 ∙ c.child.ensures in
    record {
      most = omega (arith, low);
      at = one_down u p k from c.requires.local (level_of p, place_of p, c.id.ensures.cell) c.requires.inner
          (omega (arith, low, c.requires.few))
          (subst (λ (j : ℕ). IsPlace u (child_start p j) (from + 1)) n
          (subst (λ (j : ℕ). IsPlace u (child_start p c.loop-left.left) j) m c.loop-left.invariant.at)) same;
      held = λ i a b. ⊎_elim
          (λ (l : k < i). c.loop-left.invariant.held i (omega (arith, l, n)) b)
          (λ (l : i ≤ k).
          let f : k ≡ i = omega (arith, a, l) in
          subst (λ (j : ℕ). has u (child_of p j) ≡ true) f (at_had u from (child_of p k) there.0 same))
          (cases_lt k i);
    }

pub returns-clause-first : goal.returns-clause-first
returns-clause-first c =
    let z : child_start c.args.parent c.loop-left.left ≡ child_start c.args.parent 0 =
    ap (child_start c.args.parent) (omega (arith, c.loop-left-test.false)) in
    subst (λ (x : ℕ). IsPlace c.args.list.now x c.loop-left.from) (z ∙ all_begin c.args.parent)
    c.loop-left.invariant.at

pub returns-clause-held : goal.returns-clause-held
returns-clause-held c i l = c.loop-left.invariant.held i (omega (arith, c.loop-left-test.false)) l
