use Rattle.std.proofs.Common.{◌∙◌, ℕ, List, subst, arith}
use Rattle.s2union.specs.Working.Tail.{Continues}
use Rattle.s2union.proofs.Following.{adding_step, adding_done, Added}
use Rattle.s2union.proofs.sets.add_run.Goals as goal
use Rattle.s2union.proofs.sets.add_run.Goals.{then-loop-i-test+else-not-continues, else-loop-i-test}

pub loop-i-preserved : goal.loop-i-preserved
loop-i-preserved c =
    let v = c.loop-i.invariant in
    let e = c.add_reserved.ensures in
    record {
      within = omega arith;
      few = omega arith;
      room = e.room ∙ v.room;
      adding = adding_step c.index-cells-i.result c.requires.run v.adding (omega arith) c.index-cells-i.is
          e.packed e.starts e.leaves;
    }

added : (c : goal.After-extend_reserved) → Added c.args.list.now.items c.args.cells.now c.extend_reserved.new.list.items
added c =
    adding_done c.extend_reserved.new.list.items c.requires.run c.loop-i.invariant.adding c.loop-i.invariant.within
    (λ l. elim c.loop-i-test.branch [
      | then-loop-i-test+else-not-continues w ↦ subst
          (λ (l : List ℕ). Continues l c.args.cells.now c.loop-i.i) w.as_slice.ensures.value
          (w.continues.ensures.0 w.if-not-continues.false)
      | else-loop-i-test w ↦ absurd (omega arith)
    ]) c.extend_reserved.ensures.items

pub returns-clause-packed : goal.returns-clause-packed
returns-clause-packed c = (added c).packed

pub returns-clause-leaves : goal.returns-clause-leaves
returns-clause-leaves c = (added c).leaves

pub returns-clause-starts : goal.returns-clause-starts
returns-clause-starts c = (added c).later
