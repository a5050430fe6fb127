use Rattle.std.proofs.Common.{◌<◌, ◌≤◌, ℕ, IsTrue, List}
use Rattle.std.specs.Prelude.{slice_index}
use Rattle.s2list.specs.Gaps.{IsGap}
use Rattle.s2list.specs.Packed.{IsPacked}
use Rattle.s2list.specs.Search.{Brackets}
use Rattle.s2union_c.proofs.many.eight_lie_in.Given as goal

abbrev pub invariant-loop-i : goal.invariant-loop-i
invariant-loop-i l = IsTrue l.all → (u : List ℕ) → IsGap u l.gap → IsPacked u → (j : ℕ) → l.k ≤ j → j < l.i →
    Brackets u (slice_index l.cells j) l.gap.at l.gap.at
