use Rattle.std.proofs.Common.{◌≡◌, ◌≤◌, ◌++◌, ◌+◌, take, length}
use Rattle.std.specs.Vec.{vec_capacity}
use Rattle.s2union.specs.Apply.{applied}
use Rattle.s2union.specs.Working.Merge.{CanApply, IsRest, made_list}
use Rattle.s2union.proofs.apply.changed_part.Given as goal

-- what comes before the part, what is written, and what is left to write, are the whole list
abbrev pub invariant-loop-merge : goal.invariant-loop-merge
invariant-loop-merge l = record {
  whole : (take l.from l.cells ++ l.list.items) ++ made_list l.merge ≡ applied l.out l.put l.cells;
  left : CanApply l.merge;
  rest : IsRest l.merge.cells l.cells;
  order : l.from + length l.merge.cells ≤ length l.cells;
  room : vec_capacity l.list ≡ vec_capacity l.initial.list;
}

abbrev pub decreases-loop-merge : goal.decreases-loop-merge
decreases-loop-merge l = length l.merge.cells + length l.merge.put
