-- Two lists of cells while a question about them is under way.
use Rattle.std.specs.Prelude.{◌≤◌, ◌<◌, ℕ, List, slice_index}
use Rattle.s2list.specs.Working.Walk.{LeavesOpen}
use Rattle.s2list.specs.declared.walk.Question.{Question}

-- the question about `cells` is left open by each cell of `few` from index `from` on, up to index `to`
abbrev pub OpenBetween : Question → List ℕ → List ℕ → ℕ → ℕ → Type 0
OpenBetween question cells few from to = (k : ℕ) → from ≤ k → k < to →
    LeavesOpen question cells (slice_index few k)
