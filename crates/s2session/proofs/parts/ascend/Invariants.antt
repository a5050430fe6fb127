use Rattle.std.proofs.Common.{◌+◌, ◌<◌, ℕ, slice_index}
use Rattle.s2session.proofs.parts.ascend.Given as goal

-- the cells before the place ascend
abbrev pub invariant-loop-i : goal.invariant-loop-i
invariant-loop-i l = (k : ℕ) → k + 1 < l.i → slice_index l.cells k < slice_index l.cells (k + 1)
