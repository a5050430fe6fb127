-- How many cells of a level the edges of a polygon touch, and how many edges meet a cell.
use Rattle.std.specs.Prelude.{ℕ, ◌-◌, ◌*◌, ◌/◌, ◌<◌, ◌^◌, Bool, not, ◌&&◌, length, filter}
use Rattle.s2cell.specs.Cell.{first_leaf, level_of}
use Rattle.s2cell.specs.Curve.{i_of, j_of}
use Rattle.s2cover.specs.Coverings.{filled, touched}
use Rattle.s2list.specs.Count.{count_below}
use Rattle.s2polygon.specs.Cells.{square_of, widened}
use Rattle.s2polygon.specs.Faces.{edges_on}
use Rattle.s2polygon.specs.Leaves.{Region, inner_leaf, outer_leaf}
use Rattle.s2polygon.specs.Tests.{meets_square}
use Rattle.s2polygon.specs.declared.counting.TheConstants.{MOST_TOUCHED}

-- the cell of level `k` at the place `m` has a leaf of `outer`, but not leaves of `inner` alone
abbrev pub crosses_at : (ℕ → Bool) → (ℕ → Bool) → ℕ → ℕ → Bool
crosses_at outer inner k m =
    touched outer (m * 4 ^ (30 - k)) (4 ^ (30 - k)) && not (filled inner (m * 4 ^ (30 - k)) (4 ^ (30 - k)))

-- how many of the first `n` cells of level `k` are such
abbrev pub crossing_below : (ℕ → Bool) → (ℕ → Bool) → ℕ → ℕ → ℕ
crossing_below outer inner k n = count_below (crosses_at outer inner k) n

-- how many cells of level `k` the edges touch: they have an outer leaf, but not inner leaves alone
abbrev pub cells_touched : Region → ℕ → ℕ
cells_touched r k = crossing_below (outer_leaf r) (inner_leaf r) k (6 * 4 ^ k)

-- the edges touch more than `MOST_TOUCHED` cells of level `k`
abbrev pub IsTooFine : Region → ℕ → Type 0
IsTooFine r k = MOST_TOUCHED < cells_touched r k

-- the margin is greater than the width of a cell of level `k` in the middle of a face, where they are narrowest
abbrev pub IsWide : Region → ℕ → Type 0
IsWide r k = 2 ^ (62 - k) < r.margin

-- how many edges meet the square, widened by the margin, of the cell of 2 ^ k leaves a side around the leaf `x`
abbrev pub edges_around : Region → ℕ → ℕ → ℕ
edges_around r k x =
    length (filter (meets_square (widened r.margin (square_of k (i_of x / 2 ^ k) (j_of x / 2 ^ k))))
    (edges_on (x / 4 ^ 30) r.edges))

-- how many edges meet the square of the cell `c`, widened by the margin
abbrev pub edges_met : Region → ℕ → ℕ
edges_met r c = edges_around r (30 - level_of c) (first_leaf c)
