-- What loops over rings need.
use Rattle.std.specs.Prelude.{◌≡◌, ℕ, ◌+◌, ◌<◌, ◌≤◌, ℤ, pos, ◌+ℤ◌, ◌*ℤ◌, List, [], length, get_or}
use Rattle.s2polygon.specs.Directions.{Point}
use Rattle.s2polygon.specs.Rings.{AreOpposite, EndsWrong, IsAntipodal, edge_from, start_of}
use Rattle.s2polygon.specs.declared.fault.PolygonFault.{PolygonFault}
use Rattle.s2polygon.specs.declared.fault.PolygonFault.TheVariants.{NoRing, WrongEnd, TooFewCorners, Antipodal}
use Rattle.s2polygon.specs.declared.fault.PolygonFault.TheVariants.{NotALeaf, MarginTooLarge, Memory}
use Rattle.s2polygon.specs.declared.frames.Framed.{Framed}

-- the product of two directions
abbrev pub dot_of : Framed → Framed → ℤ
dot_of a b = a.w *ℤ b.w +ℤ a.u *ℤ b.u +ℤ a.v *ℤ b.v

-- all coordinates are 0
pub record IsNone (n : Framed) : Type 0 where
  pub w : n.w ≡ pos 0
  pub u : n.u ≡ pos 0
  pub v : n.v ≡ pos 0

-- corner `i` is one of the ring of the corners from `from` up to `end`, and the next lies opposite it
pub record IsOpposite (corners : List Point) (from end i : ℕ) : Type 0 where
  pub first : from ≤ i
  pub last : i < end
  pub opposite : AreOpposite (edge_from corners from end i)

-- what a fault of one ring says
abbrev pub RingFaultMeans : List Point → ℕ → ℕ → PolygonFault → Type 0
RingFaultMeans corners from end NoRing = ⊥
RingFaultMeans corners from end (WrongEnd r) = ⊥
RingFaultMeans corners from end (TooFewCorners r) = ⊥
RingFaultMeans corners from end (Antipodal i) = IsOpposite corners from end i
RingFaultMeans corners from end NotALeaf = ⊥
RingFaultMeans corners from end MarginTooLarge = ⊥
RingFaultMeans corners from end Memory = Unit {0}

-- what a fault of the rings says
abbrev pub RingsFaultMeans : List Point → List ℕ → PolygonFault → Type 0
RingsFaultMeans corners ends NoRing = ends ≡ []
RingsFaultMeans corners ends (WrongEnd r) = (r < length ends) × EndsWrong corners ends r
RingsFaultMeans corners ends (TooFewCorners r) = (r < length ends) × (get_or ends r 0 < start_of ends r + 3)
RingsFaultMeans corners ends (Antipodal i) = (r : ℕ) × IsAntipodal corners ends r i
RingsFaultMeans corners ends NotALeaf = ⊥
RingsFaultMeans corners ends MarginTooLarge = ⊥
RingsFaultMeans corners ends Memory = Unit {0}
