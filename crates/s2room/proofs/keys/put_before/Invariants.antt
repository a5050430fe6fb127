use Rattle.std.proofs.Common.{◌≡◌, ◌≤◌, ℕ, List, length}
use Rattle.s2cell.specs.Cell.{first_leaf, level_of, parent_of}
use Rattle.s2list.specs.Room.{LeavesRest}
use Rattle.s2room.specs.Working.Ancestors.{LeadsTo, PutsThose}
use Rattle.s2room.proofs.Holders.{BeforeTo}
use Rattle.s2room.proofs.keys.put_before.Given as goal

abbrev pub invariant-loop-level : goal.invariant-loop-level
invariant-loop-level l = record {
  len : length l.out ≡ length l.fn.out;
  rest : LeavesRest l.fn.out l.out l.fn.n l.count;
  within : l.level ≤ level_of l.cell;
  start : l.fn.from ≤ first_leaf l.cell → l.fn.from ≤ first_leaf (parent_of l.cell l.level);
  put : (list : List ℕ) → LeadsTo list l.cell l.fn.from
      → PutsThose (BeforeTo l.cell l.fn.from l.level) list l.fn.out l.out l.fn.n l.count;
}
