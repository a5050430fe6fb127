use Rattle.std.proofs.Common.{◌≡◌, ◌≤◌, ℕ, List, Contains, length}
use Rattle.std.specs.List.Sorted.{IsStrictlyIncreasing}
use Rattle.s2cell.specs.Cell.{level_of}
use Rattle.s2list.specs.Room.{LeavesRest}
use Rattle.s2room.specs.Working.Ancestors.{PutsThose}
use Rattle.s2room.proofs.Holders.{AfterTo}
use Rattle.s2room.proofs.keys.put_after.Given as goal

abbrev pub invariant-loop-level : goal.invariant-loop-level
invariant-loop-level l = record {
  len : length l.out ≡ length l.fn.out;
  rest : LeavesRest l.fn.out l.out l.fn.n l.count;
  within : l.level ≤ level_of l.cell;
  put : (list : List ℕ) → IsStrictlyIncreasing list → ((c : ℕ) → Contains list c → c ≤ l.cell)
      → PutsThose (AfterTo l.cell l.next l.level) list l.fn.out l.out l.fn.n l.count;
}

abbrev pub decreases-loop-level : goal.decreases-loop-level
decreases-loop-level l = l.level
