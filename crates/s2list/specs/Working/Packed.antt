-- What only private contracts need, beside Packed.antt, which has what public contracts need.
use Rattle.std.specs.Prelude.{ℕ, ◌+◌, ◌<◌, ◌≤◌, List, length, slice_index}
use Rattle.s2cell.specs.Cell.{first_leaf, size_of}

-- there is a cell at index `at` of `u`, and it ends by the leaf `lo`
abbrev pub EndsAt : List ℕ → ℕ → ℕ → Type 0
EndsAt u at lo = (at < length u) × (first_leaf (slice_index u at) + size_of (slice_index u at) ≤ lo)
