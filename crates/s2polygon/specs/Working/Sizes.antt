-- How large the numbers are.
use Rattle.std.specs.Prelude.{◌≡◌, ℤ, ◌*◌, ◌≤◌, ◌<◌, ◌<ℤ◌, ◌^◌, unsigned_abs}
use Rattle.s2polygon.specs.Frames.{normal_of}
use Rattle.s2polygon.specs.declared.frames.Framed.{Framed}
use Rattle.s2polygon.specs.declared.frames.FramedEdge.{FramedEdge}
use Rattle.s2polygon.specs.declared.places.Line.{Line}
use Rattle.s2polygon.specs.declared.places.Square.{Square}
use Rattle.s2polygon.specs.declared.places.Step.{Step}

-- a direction's coordinates are less than 2 ^ 31 in size
pub record IsShort (c : Framed) : Type 0 where
  pub w : unsigned_abs c.w < 2 ^ 31
  pub u : unsigned_abs c.u < 2 ^ 31
  pub v : unsigned_abs c.v < 2 ^ 31

-- an edge's normal is the product of its ends
pub record IsFramed (e : FramedEdge) : Type 0 where
  pub normal : e.n ≡ normal_of e.a e.b

-- a place on a face, margins included
abbrev pub IsPlace : ℤ → Type 0
IsPlace z = unsigned_abs z ≤ 2 ^ 62

-- a place on a face, without margins
abbrev pub IsOnFace : ℤ → Type 0
IsOnFace z = unsigned_abs z ≤ 3 * 2 ^ 60

-- a square's borders are places, and it is not empty
pub record IsOfPlaces (q : Square) : Type 0 where
  pub u0 : IsPlace q.u0
  pub u1 : IsPlace q.u1
  pub v0 : IsPlace q.v0
  pub v1 : IsPlace q.v1
  pub wide : q.u0 <ℤ q.u1
  pub high : q.v0 <ℤ q.v1

-- a square's borders lie on the face, and it is not empty
pub record IsOfFace (q : Square) : Type 0 where
  pub u0 : IsOnFace q.u0
  pub u1 : IsOnFace q.u1
  pub v0 : IsOnFace q.v0
  pub v1 : IsOnFace q.v1
  pub wide : q.u0 <ℤ q.u1
  pub high : q.v0 <ℤ q.v1

-- a piece's numbers are places
pub record HasPlacesOfLine (l : Line) : Type 0 where
  pub at : IsPlace l.at
  pub low : IsPlace l.low
  pub high : IsPlace l.high

-- a step's numbers are places
pub record HasPlaces (s : Step) : Type 0 where
  pub row : HasPlacesOfLine s.row
  pub column : HasPlacesOfLine s.column
