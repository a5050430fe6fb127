use Rattle.std.proofs.Common.{◌≡◌, ◌≤◌, ◌++◌, ◌+◌, ◌-◌, length, drop, take}
use Rattle.s2union.specs.Apply.{cells_without}
use Rattle.s2edit.proofs.lacking.unshared_by_steps.Given as goal

-- what is written, and what is left to find, are the whole lists
abbrev pub invariant-loop-i : goal.invariant-loop-i
invariant-loop-i l = record {
  out : take l.lost l.out.items ++ cells_without (drop l.i l.old) (drop l.j l.«new») ≡ cells_without l.old l.«new»;
  put : take l.won l.put.items ++ cells_without (drop l.j l.«new») (drop l.i l.old) ≡ cells_without l.«new» l.old;
  out_long : length l.out.items ≡ length l.old;
  put_long : length l.«new» ≤ length l.put.items;
  in_old : (l.lost ≤ l.i) × (l.i ≤ length l.old);
  in_new : (l.won ≤ l.j) × (l.j ≤ length l.«new»);
}

abbrev pub decreases-loop-i : goal.decreases-loop-i
decreases-loop-i l = (length l.old - l.i) + (length l.«new» - l.j)
