use Rattle.std.proofs.Common.{ℕ, List, ◌∙◌, sym, arith}
use Rattle.std.proofs.lemmas.Bool.{false≢true}
use Rattle.std.proofs.lemmas.List.{at_drop_all}
use Rattle.s2list.specs.Union.{has_leaf}
use Rattle.s2union.specs.Apply.{has}
use Rattle.s2edit.proofs.Watching.{watched_more, next_watched, grows_none, grows_on}
use Rattle.s2edit.proofs.near.watch.Goals as goal

pub loop-cell-init : goal.loop-cell-init
loop-cell-init c = record {
  grows = grows_none _ _;
  rest = λ T w rest. rest;
}

pub loop-cell-preserved : goal.loop-cell-preserved
loop-cell-preserved c = record {
  grows = grows_on c.loop-cell.invariant.grows c.in_ok-at.ensures.grows;
  rest = λ T w rest. c.loop-cell.invariant.rest T (λ x h. w x (c.in_ok-at.ensures.grows.kept x h))
      (next_watched c.args.cells.now c.loop-cell.cell-index c.cell-item.result c.loop-cell-test.true c.cell-item.is
      (watched_more w c.in_ok-at.ensures.watched) rest);
}

pub returns-clause-grows : goal.returns-clause-grows
returns-clause-grows c = c.loop-cell.invariant.grows

pub returns-clause-watched : goal.returns-clause-watched
returns-clause-watched c = c.loop-cell.invariant.rest (has_leaf c.loop-cell.watched.items) (λ x h. h)
    (λ k h. absurd (false≢true (sym (at_drop_all (λ (l : List ℕ). has l k) c.args.cells.now c.loop-cell.cell-index
    (omega (arith, c.loop-cell-test.false))) ∙ h)))
