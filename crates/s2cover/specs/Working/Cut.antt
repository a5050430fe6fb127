-- A union's cells, cut to a level, and those that have a leaf in a set.
use Rattle.std.specs.Prelude.{ℕ, Bool, cond, List, map}
use Rattle.std.specs.List.{filter}
use Rattle.s2cell.specs.Cell.{first_leaf, size_of, parent_of}
use Rattle.s2cover.specs.Cut.{reaches}
use Rattle.s2cover.specs.Coverings.{touched}

-- the cell `c`, or its ancestor at level `k` if it is deeper
abbrev pub cut_at : ℕ → ℕ → ℕ
cut_at k c = cond (reaches k c) c (parent_of c k)

-- the cells of `u`, with those deeper than level `k` replaced by their ancestors at level `k`
abbrev pub cells_cut : ℕ → List ℕ → List ℕ
cells_cut k u = map (cut_at k) u

-- some leaf of the cell `c` is in `S`
abbrev pub meets : (ℕ → Bool) → ℕ → Bool
meets S c = touched S (first_leaf c) (size_of c)

-- the cells of `u` that have a leaf in `S`
abbrev pub cells_met : (ℕ → Bool) → List ℕ → List ℕ
cells_met S u = filter (meets S) u
