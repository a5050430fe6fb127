use Rattle.std.proofs.Common.{◌≤◌, ◌+◌, ◌-◌, length, drop}
use Rattle.s2edit.specs.Diff.{AreApart}
use Rattle.s2session.proofs.parts.are_apart.Given as goal

abbrev pub invariant-loop-i : goal.invariant-loop-i
invariant-loop-i l = record {
  rest : AreApart (drop l.i l.out) (drop l.j l.put) → AreApart l.out l.put;
  i_within : l.i ≤ length l.out;
  j_within : l.j ≤ length l.put;
}

abbrev pub decreases-loop-i : goal.decreases-loop-i
decreases-loop-i l = (length l.out - l.i) + (length l.put - l.j)
