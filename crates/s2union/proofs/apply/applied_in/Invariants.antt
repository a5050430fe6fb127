use Rattle.std.proofs.Common.{◌≡◌, ◌++◌, ◌+◌, length}
use Rattle.std.specs.Vec.{vec_capacity}
use Rattle.s2union.specs.Apply.{applied}
use Rattle.s2union.specs.Working.Merge.{CanApply, made_list}
use Rattle.s2union.proofs.apply.applied_in.Given as goal

-- what is written, and what is left to write, are the whole list
abbrev pub invariant-loop-cell : goal.invariant-loop-cell
invariant-loop-cell l = record {
  whole : l.list.items ++ made_list l.merge ≡ applied l.out l.put l.cells;
  left : CanApply l.merge;
  room : vec_capacity l.list ≡ vec_capacity l.initial.list;
}

abbrev pub decreases-loop-cell : goal.decreases-loop-cell
decreases-loop-cell l = length l.merge.cells + length l.merge.put
