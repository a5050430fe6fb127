-- The rings of a polygon, and why corners and ends make none.
use Rattle.std.specs.Prelude.{◌≡◌, ℕ, zero, suc, ◌+◌, ◌-◌, ◌^◌, ◌<◌, ◌≤◌, ◌≢◌, ◌⊎◌, pos, ◌+ℤ◌, ◌-ℤ◌, ◌*ℤ◌, ◌≤ℤ◌}
use Rattle.std.specs.Prelude.{◌==◌, cond, List, [], ◌∷◌, ◌++◌, length, get_or, map}
use Rattle.s2cell.specs.Cell.{level_of}
use Rattle.s2polygon.specs.Directions.{IsDirection, Point, origin}
use Rattle.s2polygon.specs.declared.directions.Edge.{Edge}
use Rattle.s2polygon.specs.declared.fault.PolygonFault.{PolygonFault}
use Rattle.s2polygon.specs.declared.fault.PolygonFault.TheVariants.{NoRing, WrongEnd, TooFewCorners, Antipodal}
use Rattle.s2polygon.specs.declared.fault.PolygonFault.TheVariants.{NotALeaf, MarginTooLarge, Memory}

-- corner number `i`
abbrev pub corner : List Point → ℕ → Point
corner corners i = get_or corners i origin

-- the corner after corner `i`, in the ring of the corners from `from` up to `end`: the first after the last
abbrev pub after : ℕ → ℕ → ℕ → ℕ
after from end i = cond (i + 1 == end) from (i + 1)

-- the edge from corner `i` of that ring
abbrev pub edge_from : List Point → ℕ → ℕ → ℕ → Edge
edge_from corners from end i = record { a = corner corners i; b = corner corners (after from end i) }

-- the edges from the first `n` corners of that ring
abbrev pub edges_from : List Point → ℕ → ℕ → ℕ → List Edge
edges_from corners from end zero = []
edges_from corners from end (suc n) = edges_from corners from end n ++ (edge_from corners from end (from + n) ∷ [])

-- where ring `r` begins: where the one before it ends
abbrev pub start_of : List ℕ → ℕ → ℕ
start_of ends zero = 0
start_of ends (suc r) = get_or ends r 0

-- the edges of ring `r`
abbrev pub ring_edges : List Point → List ℕ → ℕ → List Edge
ring_edges corners ends r =
    edges_from corners (start_of ends r) (get_or ends r 0) (get_or ends r 0 - start_of ends r)

-- the edges of the first `n` rings
abbrev pub rings_edges : List Point → List ℕ → ℕ → List Edge
rings_edges corners ends zero = []
rings_edges corners ends (suc n) = rings_edges corners ends n ++ ring_edges corners ends n

-- the edge, turned round: from its end to where it begins
abbrev pub turned : Edge → Edge
turned e = record { a = e.b; b = e.a }

-- the edges, each turned round: a ring that runs in the other direction
abbrev pub turned_round : List Edge → List Edge
turned_round es = map turned es

-- the edge begins and ends at a direction
pub record HasDirections (e : Edge) : Type 0 where
  pub a : IsDirection e.a
  pub b : IsDirection e.b

-- two directions lie opposite each other: they lie on one line, on its two sides
pub record AreOpposite (e : Edge) : Type 0 where
  pub x : e.a.y *ℤ e.b.z -ℤ e.a.z *ℤ e.b.y ≡ pos 0
  pub y : e.a.z *ℤ e.b.x -ℤ e.a.x *ℤ e.b.z ≡ pos 0
  pub z : e.a.x *ℤ e.b.y -ℤ e.a.y *ℤ e.b.x ≡ pos 0
  pub away : (e.a.x *ℤ e.b.x +ℤ e.a.y *ℤ e.b.y +ℤ e.a.z *ℤ e.b.z) ≤ℤ pos 0

-- no edge of the ring of the corners from `from` up to `end` has opposite ends
abbrev pub HasNoOpposite : List Point → ℕ → ℕ → Type 0
HasNoOpposite corners from end = (i : ℕ) → from ≤ i → i < end → ¬ (AreOpposite (edge_from corners from end i))

-- ring `r` has three corners or more, lies within the corners, and no edge of it has opposite ends
pub record IsRing (corners : List Point) (ends : List ℕ) (r : ℕ) : Type 0 where
  pub begins : start_of ends r + 3 ≤ get_or ends r 0
  pub ends_within : get_or ends r 0 ≤ length corners
  pub edges : HasNoOpposite corners (start_of ends r) (get_or ends r 0)

-- the corners are those of rings that end there, one ring after another, and there is a ring
pub record AreRings (corners : List Point) (ends : List ℕ) : Type 0 where
  pub some : 0 < length ends
  pub rings : (r : ℕ) → r < length ends → IsRing corners ends r
  pub whole : start_of ends (length ends) ≡ length corners

-- ring `r` ends before it begins, or beyond the corners, or it is the last and corners are left
abbrev pub EndsWrong : List Point → List ℕ → ℕ → Type 0
EndsWrong corners ends r =
    (get_or ends r 0 < start_of ends r) ⊎ (length corners < get_or ends r 0)
    ⊎ ((r + 1 ≡ length ends) × (get_or ends r 0 < length corners))

-- corner `i` is one of ring `r`, and the next corner of the ring lies opposite it
pub record IsAntipodal (corners : List Point) (ends : List ℕ) (r i : ℕ) : Type 0 where
  pub ring : r < length ends
  pub first : start_of ends r ≤ i
  pub last : i < get_or ends r 0
  pub opposite : AreOpposite (edge_from corners (start_of ends r) (get_or ends r 0) i)

-- what the fault says is so
abbrev pub FaultMeans : List Point → List ℕ → ℕ → ℕ → PolygonFault → Type 0
FaultMeans corners ends outside margin NoRing = ends ≡ []
FaultMeans corners ends outside margin (WrongEnd r) = (r < length ends) × EndsWrong corners ends r
FaultMeans corners ends outside margin (TooFewCorners r) = (r < length ends) × (get_or ends r 0 < start_of ends r + 3)
FaultMeans corners ends outside margin (Antipodal i) = (r : ℕ) × IsAntipodal corners ends r i
FaultMeans corners ends outside margin NotALeaf = level_of outside ≢ 30
FaultMeans corners ends outside margin MarginTooLarge = 2 ^ 60 < margin
FaultMeans corners ends outside margin Memory = Unit {0}
