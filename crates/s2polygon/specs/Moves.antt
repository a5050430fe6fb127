-- Corners that are moved, and how much greater the margin is that pays for it.
use Rattle.std.specs.Prelude.{ℕ, ◌+◌, ◌-◌, ◌*◌, ◌/◌, ◌%◌, ◌^◌, ◌≤◌, ◌<◌, ◌≡◌, ◌≢◌, ℤ, pos, ◌+ℤ◌, ◌-ℤ◌, ◌*ℤ◌, ◌≤ℤ◌}
use Rattle.std.specs.Prelude.{All, List, length, unsigned_abs}
use Rattle.s2polygon.specs.Directions.{Point}
use Rattle.s2polygon.specs.Frames.{in_frame}
use Rattle.s2polygon.specs.Leaves.{Region}
use Rattle.s2polygon.specs.Meets.{above, left_of}
use Rattle.s2polygon.specs.Places.{along}
use Rattle.s2polygon.specs.Rings.{AreRings, HasDirections, corner, rings_edges}
use Rattle.s2polygon.specs.declared.directions.Edge.{Edge}
use Rattle.s2polygon.specs.declared.frames.Framed.{Framed}

-- `q / scale` is at most `num / den` away from `p`
abbrev pub IsNearBy : ℕ → ℕ → ℕ → ℤ → ℤ → Type 0
IsNearBy num den scale p q = den * unsigned_abs (q -ℤ pos scale *ℤ p) ≤ num * scale

-- a point of the direction `q`, `q / scale`, is at most `num / den` away from `p` in each coordinate
pub record PassesNear (num den : ℕ) (p q : Point) : Type 0 where
  pub scale : ℕ
  pub some : 0 < scale
  pub x : IsNearBy num den scale p.x q.x
  pub y : IsNearBy num den scale p.y q.y
  pub z : IsNearBy num den scale p.z q.z

-- each of the corners `moved` passes near the same one of `corners`
pub record AreMoved (num den : ℕ) (corners moved : List Point) : Type 0 where
  pub as_many : length moved ≡ length corners
  pub near : (i : ℕ) → i < length corners → PassesNear num den (corner corners i) (corner moved i)

-- the sum of two corners
abbrev pub sum_of : Point → Point → Point
sum_of p q = record { x = p.x +ℤ q.x; y = p.y +ℤ q.y; z = p.z +ℤ q.z }

-- the sum of the sizes of its coordinates
abbrev pub sizes_of : Point → ℕ
sizes_of p = unsigned_abs p.x + unsigned_abs p.y + unsigned_abs p.z

-- the sum of the products of the coordinates
abbrev pub product_of : Point → Point → ℤ
product_of p q = p.x *ℤ q.x +ℤ p.y *ℤ q.y +ℤ p.z *ℤ q.z

-- the straight line between the ends stays clear of the cube around the center whose sides are `height` away, since a
-- plane lies between them, at right angles to the sum of the ends
pub record StaysClear (height : ℕ) (e : Edge) : Type 0 where
  pub some : 0 < sizes_of (sum_of e.a e.b)
  pub a : pos (height * sizes_of (sum_of e.a e.b)) ≤ℤ product_of e.a (sum_of e.a e.b)
  pub b : pos (height * sizes_of (sum_of e.a e.b)) ≤ℤ product_of e.b (sum_of e.a e.b)

-- the margin that has, of edges that stay clear of that cube, each leaf that the same edges touch with `margin`, before
-- their corners are moved by at most `num / den`
abbrev pub margin_of_moved : ℕ → ℕ → ℕ → ℕ → ℕ
margin_of_moved num den height margin = margin + (28 * 2 ^ 60 * num / (3 * (height * den - num)) + 1)

-- the corners are near the moved ones, all edges between them stay clear of that cube, and the greater margin isn't
-- above the most that a polygon may have
pub record AreNearRings (num den height margin : ℕ) (corners moved : List Point) (ends : List ℕ) : Type 0 where
  pub near : AreMoved num den corners moved
  pub clear : All (StaysClear height) (rings_edges corners ends (length ends))
  pub less : num < height * den
  pub most : margin_of_moved num den height margin ≤ 2 ^ 60

-- the direction lies on no line through the middles of a row, or of a column, of the leaves of a face
pub record IsOffMiddle (c : Framed) : Type 0 where
  pub rows : (m : ℕ) → m < 2 ^ 30 → c.w ≢ pos 0 → above (along (2 * m + 1)) c ≢ pos 0
  pub columns : (m : ℕ) → m < 2 ^ 30 → c.w ≢ pos 0 → left_of (along (2 * m + 1)) c ≢ pos 0

-- of no face
abbrev pub IsOffMiddles : Point → Type 0
IsOffMiddles p = (f : ℕ) → IsOffMiddle (in_frame f p)

-- all coordinates are odd
pub record IsOdd (p : Point) : Type 0 where
  pub x : unsigned_abs p.x % 2 ≡ 1
  pub y : unsigned_abs p.y % 2 ≡ 1
  pub z : unsigned_abs p.z % 2 ≡ 1

-- the corners are directions that make rings, and the moved ones lie on no line through middles of leaves
pub record AreOffMiddles (corners moved : List Point) (ends : List ℕ) : Type 0 where
  pub rings : AreRings corners ends
  pub directions : All HasDirections (rings_edges corners ends (length ends))
  pub off : All IsOffMiddles moved

-- the polygon of these rings, with the leaf outside and the margin of the other
abbrev pub of_rings : Region → List Point → List ℕ → Region
of_rings r corners ends = record r { edges = rings_edges corners ends (length ends) }

-- the polygon with the margin that pays for moved corners
abbrev pub paid_for : ℕ → ℕ → ℕ → Region → Region
paid_for num den height r = record r { margin = margin_of_moved num den height r.margin }
