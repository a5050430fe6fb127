-- The polygon that a caller passes by its corners, what the calls for its coverings answer, and when they refuse it.
use Rattle.std.specs.Prelude.{◌≡◌, ◌≢◌, ◌<◌, ◌≤◌, ◌+◌, ◌^◌, ◌⊎◌, ℕ, ℤ, Bool, List, [], All, length, map, max, get_or}
use Rattle.s2cell.specs.Cell.{IsCell, first_leaf, level_of}
use Rattle.s2list.specs.Denorm.{denormalised}
use Rattle.s2list.specs.Union.{IsLocal, IsWithin, has_leaf}
use Rattle.s2cover.specs.Coverings.{EachShares, HasAllOf, NoneDeeper}
use Rattle.s2cover.specs.Near.{IsNearInner, IsNearOuter}
use Rattle.s2cover.specs.declared.TheConstants.{MOST_COVERING}
use Rattle.s2polygon.specs.Counts.{IsTooFine, IsWide, edges_met}
use Rattle.s2polygon.specs.Directions.{IsDirection, Point}
use Rattle.s2polygon.specs.Leaves.{Region, inner_leaf, outer_leaf}
use Rattle.s2polygon.specs.Rings.{AreRings, EndsWrong, IsAntipodal, corner, rings_edges, start_of}
use Rattle.s2union_c.specs.Coverings.{Covers}
use Rattle.s2union_c.specs.Results.{Made, Refused}
use Rattle.s2union_c.specs.Status.{bad_corner, bad_ring, made, no_memory, too_many}
use Rattle.s2union_c.specs.declared.polygons.Direction.{Direction}

-- the point with the coordinates of a corner
abbrev pub point_of : Direction → Point
point_of d = record { x = d.x; y = d.y; z = d.z }

-- the points of all corners
abbrev pub points_of : List Direction → List Point
points_of corners = map point_of corners

-- the polygon of these corners
abbrev pub region_of : List Direction → List ℕ → ℕ → ℕ → Region
region_of corners ends outside margin = record {
  edges = rings_edges (points_of corners) ends (length ends);
  outside = first_leaf outside;
  margin = margin;
}

-- the cell outside is a leaf, and the margin and the levels are in range
pub record IsAsked (outside margin least deepest : ℕ) : Type 0 where
  pub cell : IsCell outside
  pub leaf : level_of outside ≡ 30
  pub near : margin ≤ 2 ^ 60
  pub order : least ≤ deepest
  pub level : deepest ≤ 30

-- each corner is a direction, and the corners are those of rings that end there
pub record AreGiven (corners : List Direction) (ends : List ℕ) : Type 0 where
  pub directions : All IsDirection (points_of corners)
  pub rings : AreRings (points_of corners) ends

-- the corner at the place `k` is no direction, or lies opposite the next of its ring
abbrev pub IsWrongCorner : List Direction → List ℕ → ℕ → Type 0
IsWrongCorner corners ends k =
    ((k < length corners) × ¬ (IsDirection (corner (points_of corners) k)))
    ⊎ ((r : ℕ) × IsAntipodal (points_of corners) ends r k)

-- ring `r` ends in a wrong place or has fewer than three corners, or `r` is 0 and there is none
abbrev pub IsWrongRing : List Direction → List ℕ → ℕ → Type 0
IsWrongRing corners ends r =
    ((ends ≡ []) × (r ≡ 0))
    ⊎ ((r < length ends) × (EndsWrong (points_of corners) ends r ⊎ (get_or ends r 0 < start_of ends r + 3)))

-- the status says what is wrong and the length where, or there was no memory; nothing is written
abbrev pub RefusesRings : List Direction → List ℕ → ℤ → List ℕ → List ℕ → ℕ → Type 0
RefusesRings corners ends status old new len =
    ((status ≡ bad_corner) × IsWrongCorner corners ends len × (new ≡ old))
    ⊎ ((status ≡ bad_ring) × IsWrongRing corners ends len × (new ≡ old))
    ⊎ Refused status no_memory old new len

-- the edges touch too many cells of level `k`, and the margin is wider than one
abbrev pub IsTooFineOuter : Region → ℕ → Type 0
IsTooFineOuter r k = IsWide r k × IsTooFine r k

-- the normal form of `S` was written or refused as `Covers` says; or the edges touch too many cells, and the call was
-- refused
abbrev pub CoversUnless : Type 0 → ℕ → (ℕ → Bool) → ℤ → List ℕ → List ℕ → ℕ → Type 0
CoversUnless IsMuch most S status old new len = Covers most S status old new len
    ⊎ (Refused status too_many old new len × IsMuch)

-- the cells `u` are an outer covering of at most `most` cells, or 6 if that is more: none is deeper than `deepest`, no
-- outer leaf is missing, each cell has one, and the covering comes near
pub record IsOuterUpTo (r : Region) (deepest most : ℕ) (u : List ℕ) : Type 0 where
  pub leaves : HasAllOf (outer_leaf r) u
  pub near : IsNearOuter (outer_leaf r) (inner_leaf r) (edges_met r) (length r.edges) deepest most u
  pub shares : EachShares (outer_leaf r) u
  pub within : length u ≤ max most 6
  pub level : NoneDeeper deepest u
  pub local : IsLocal u

-- the cells `u` are an inner covering of at most `most` cells: none is deeper than `deepest`, all leaves are inner, and
-- the covering comes near
pub record IsInnerUpTo (r : Region) (deepest most : ℕ) (u : List ℕ) : Type 0 where
  pub leaves : IsWithin (has_leaf u) (inner_leaf r)
  pub near : IsNearInner (outer_leaf r) (inner_leaf r) (edges_met r) (length r.edges) deepest most u
  pub within : length u ≤ most
  pub level : NoneDeeper deepest u
  pub local : IsLocal u

-- of a union with the property, the cells larger than those of the level `least` were cut to that level, and the result
-- written or longer than the room; or it has too many cells, and the call was refused
abbrev pub CutsOne : ℕ → (List ℕ → Type 0) → ℤ → List ℕ → List ℕ → ℕ → Type 0
CutsOne least P status old new len =
    ((u : List ℕ) × P u × Made status (denormalised least 1 u) old new len)
    ⊎ ((u : List ℕ) × P u × (MOST_COVERING < length (denormalised least 1 u)) × Refused status too_many old new len)

-- the same, or there was no memory, and the call was refused
abbrev pub AnswersCut : ℕ → (List ℕ → Type 0) → ℤ → List ℕ → List ℕ → ℕ → Type 0
AnswersCut least P status old new len = CutsOne least P status old new len ⊎ Refused status no_memory old new len

-- two answers, each with a status of its own: that of the call is the first's, or the second's if the first is `made`
pub record AnswersBoth (First Second : ℤ → Type 0) (status : ℤ) : Type 0 where
  pub first : ℤ
  pub second : ℤ
  pub of_first : First first
  pub of_second : Second second
  pub refused : first ≢ made → status ≡ first
  pub passed : first ≡ made → status ≡ second
