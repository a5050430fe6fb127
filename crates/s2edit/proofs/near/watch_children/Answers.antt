use Rattle.std.proofs.Common.{◌≡◌, ◌<◌, ◌≤◌, ℕ, true, sym, subst, arith}
use Rattle.std.proofs.Math.Logic.{⊎_elim}
use Rattle.std.proofs.lemmas.Bool.{cases_lt}
use Rattle.s2cell.specs.Cell.{level_of, place_of, first_leaf, child_of}
use Rattle.s2list.specs.Packed.{FirstEndBy}
use Rattle.s2list.specs.Union.{has_leaf, LiesIn}
use Rattle.s2union.specs.Apply.{has}
use Rattle.s2edit.proofs.Watching.{first_ended, next_ended, grows_none, grows_on}
use Rattle.s2edit.proofs.near.watch_children.Goals as goal

pub loop-k-init : goal.loop-k-init
loop-k-init c = record {
  within = c.requires.within;
  ended = λ l. first_ended c.args.list.now c.args.from c.args.parent
      (level_of c.args.parent, place_of c.args.parent, c.id.ensures.cell) c.requires.level c.requires.ended;
  grows = grows_none _ _;
  children = λ i l. absurd (omega (arith, l));
}

pub child-requires-clause-inner : goal.child-requires-clause-inner
child-requires-clause-inner c = c.requires.level

pub watch_holder-requires-clause-within : goal.watch_holder-requires-clause-within
watch_holder-requires-clause-within c = c.loop-k.invariant.within

pub watch_holder-requires-clause-ended : goal.watch_holder-requires-clause-ended
watch_holder-requires-clause-ended c =
    subst (λ (s : ℕ). FirstEndBy c.args.list.now c.loop-k.at (first_leaf s)) (sym c.child.ensures)
    (c.loop-k.invariant.ended c.loop-k-test.true)

pub loop-k-preserved : goal.loop-k-preserved
loop-k-preserved c =
    let p = c.args.parent in
    let k = c.loop-k.k in
    record {
      within = c.in_ok-at.ensures.within;
      ended = λ l. next_ended c.args.list.now c.in_ok-at.at p k (level_of p, place_of p, c.id.ensures.cell)
          c.requires.level l (subst (λ (s : ℕ). FirstEndBy c.args.list.now c.in_ok-at.at (first_leaf s))
          c.child.ensures c.in_ok-at.ensures.ended);
      grows = grows_on c.loop-k.invariant.grows c.in_ok-at.ensures.grows;
      children = λ i l h. ⊎_elim
          (λ (b : i < k). λ x v. c.in_ok-at.ensures.grows.kept x (c.loop-k.invariant.children i b h x v))
          (λ (b : k ≤ i).
          let e : k ≡ i = omega (arith, b, l) in
          subst (λ (j : ℕ). has c.args.list.now (child_of p j) ≡ true →
          LiesIn (has_leaf c.watch_holder.new.watched.items) (child_of p j)) e
          (subst (λ (s : ℕ). has c.args.list.now s ≡ true → LiesIn (has_leaf c.watch_holder.new.watched.items) s)
          c.child.ensures (λ m. c.in_ok-at.ensures.holder c.child.result m (λ x v. v))) h)
          (cases_lt i k);
    }

pub returns-clause-grows : goal.returns-clause-grows
returns-clause-grows c = c.loop-k.invariant.grows

pub returns-clause-children : goal.returns-clause-children
returns-clause-children c i l = c.loop-k.invariant.children i (omega (arith, l, c.loop-k-test.false))
