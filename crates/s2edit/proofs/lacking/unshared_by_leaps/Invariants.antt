use Rattle.std.proofs.Common.{◌≡◌, ◌≤◌, ◌++◌, ◌+◌, ◌-◌, length, drop}
use Rattle.s2union.specs.Apply.{cells_without}
use Rattle.s2edit.proofs.lacking.unshared_by_leaps.Given as goal

-- what is found, and what is left to find, are the whole lists
abbrev pub invariant-loop-i : goal.invariant-loop-i
invariant-loop-i l = record {
  out : l.out.items ++ cells_without (drop l.i l.old) (drop l.j l.«new») ≡ cells_without l.old l.«new»;
  put : l.put.items ++ cells_without (drop l.j l.«new») (drop l.i l.old) ≡ cells_without l.«new» l.old;
  i_within : l.i ≤ length l.old;
  j_within : l.j ≤ length l.«new»;
}

abbrev pub decreases-loop-i : goal.decreases-loop-i
decreases-loop-i l = (length l.old - l.i) + (length l.«new» - l.j)
