-- The edges of closed rings, and why corners and ends make none.
use Rattle.std.specs.Prelude.{◌≡◌, ℕ, zero, suc, ◌+◌, ◌-◌, ◌<◌, ◌≤◌, ◌⊎◌, pos}
use Rattle.std.specs.Prelude.{List, [], ◌∷◌, ◌++◌, length, get_or}
use Rattle.s2map.specs.Map.{IsMapPlace}
use Rattle.s2polygon.specs.Rings.{after, start_of}
use Rattle.s2map.specs.declared.fault.MapFault.{MapFault}
use Rattle.s2map.specs.declared.fault.MapFault.TheVariants.{NoRing, WrongEnd, TooFewCorners, Corner, OutOfRange}
use Rattle.s2map.specs.declared.fault.MapFault.TheVariants.{WrongBox, Memory}
use Rattle.s2map.specs.declared.place.MapEdge.{MapEdge}
use Rattle.s2map.specs.declared.place.Place.{Place}

-- the place at longitude 0 and latitude 0
abbrev pub origin : Place
origin = record { longitude = pos 0; latitude = pos 0 }

-- corner number `i`
abbrev pub corner : List Place → ℕ → Place
corner corners i = get_or corners i origin

-- the edge from corner `i` of that ring
abbrev pub edge_from : List Place → ℕ → ℕ → ℕ → MapEdge
edge_from corners from end i = record { a = corner corners i; b = corner corners (after from end i) }

-- the edges from the first `n` corners of that ring
abbrev pub edges_from : List Place → ℕ → ℕ → ℕ → List MapEdge
edges_from corners from end zero = []
edges_from corners from end (suc n) = edges_from corners from end n ++ (edge_from corners from end (from + n) ∷ [])

-- the edges of ring `r`
abbrev pub ring_edges : List Place → List ℕ → ℕ → List MapEdge
ring_edges corners ends r =
    edges_from corners (start_of ends r) (get_or ends r 0) (get_or ends r 0 - start_of ends r)

-- the edges of the first `n` rings
abbrev pub rings_edges : List Place → List ℕ → ℕ → List MapEdge
rings_edges corners ends zero = []
rings_edges corners ends (suc n) = rings_edges corners ends n ++ ring_edges corners ends n

-- ring `r` has three corners or more, and lies within the corners
pub record IsRing (corners : List Place) (ends : List ℕ) (r : ℕ) : Type 0 where
  pub begins : start_of ends r + 3 ≤ get_or ends r 0
  pub ends_within : get_or ends r 0 ≤ length corners

-- the corners are those of rings that end there, one ring after another, and there is a ring
pub record AreRings (corners : List Place) (ends : List ℕ) : Type 0 where
  pub some : 0 < length ends
  pub rings : (r : ℕ) → r < length ends → IsRing corners ends r
  pub whole : start_of ends (length ends) ≡ length corners

-- ring `r` ends before it begins, or beyond the corners, or it is the last and corners are left
abbrev pub EndsWrong : List Place → List ℕ → ℕ → Type 0
EndsWrong corners ends r =
    (get_or ends r 0 < start_of ends r) ⊎ (length corners < get_or ends r 0)
    ⊎ ((r + 1 ≡ length ends) × (get_or ends r 0 < length corners))

-- what the fault says of corners and ends is so
abbrev pub FaultMeans : List Place → List ℕ → MapFault → Type 0
FaultMeans corners ends NoRing = ends ≡ []
FaultMeans corners ends (WrongEnd r) = (r < length ends) × EndsWrong corners ends r
FaultMeans corners ends (TooFewCorners r) = (r < length ends) × (get_or ends r 0 < start_of ends r + 3)
FaultMeans corners ends (Corner i) = (i < length corners) × ¬ (IsMapPlace (corner corners i))
FaultMeans corners ends OutOfRange = ⊥
FaultMeans corners ends WrongBox = ⊥
FaultMeans corners ends Memory = Unit {0}
