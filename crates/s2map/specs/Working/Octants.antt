-- Places of one eighth of the sphere, by two angles of at most 90 degrees.
use Rattle.std.specs.Prelude.{◌≡◌, ℕ, ◌+◌, ◌-◌, ◌*◌, ◌^◌, ◌≤◌, ◌<◌, Bool, true, false, ℤ, pos, neg_ℤ, ◌+ℤ◌, ◌-ℤ◌, ◌*ℤ◌}
use Rattle.std.specs.Prelude.{◌≤ℤ◌, ◌⊎◌, unsigned_abs}
use Rattle.s2degrees.specs.Degrees.{IsEitherSine, quarter, turn}
use Rattle.s2degrees.specs.Femtodegrees.{with_sign}
use Rattle.s2polygon.specs.Directions.{Point}
use Rattle.s2polygon.specs.Frames.{in_frame}
use Rattle.s2polygon.specs.Places.{along, whole as face_whole}
use Rattle.s2map.specs.declared.angles.Angles.{Angles}
use Rattle.s2map.specs.declared.angles.Span.{Span}
use Rattle.s2map.specs.declared.cells.Octant.{Octant}
use Rattle.s2map.specs.declared.cells.Range.{Range}
use Rattle.s2map.specs.declared.cells.Side.{Side}
use Rattle.s2map.specs.declared.place.Place.{Place}

-- the places along a face, over which columns and rows are measured
abbrev pub whole : ℕ
whole = 3 * 2 ^ 60

-- the span is one of places from the middle of a face to its border
pub record IsSpan (s : Span) : Type 0 where
  pub low : s.low ≤ whole
  pub high : s.high ≤ whole

-- it is one of angles of at most 90 degrees
pub record IsAngleSpan (s : Span) : Type 0 where
  pub order : s.low ≤ s.high
  pub most : s.high ≤ quarter

-- the number lies in the span
pub record IsIn (s : Span) (x : ℕ) : Type 0 where
  pub low : s.low ≤ x
  pub high : x ≤ s.high

-- x over w, times the places along a face, lies in the span
pub record IsAlong (s : Span) (x w : ℕ) : Type 0 where
  pub low : s.low * w ≤ whole * x
  pub high : whole * x ≤ s.high * w

-- (x, y, z) is the direction at the longitude t and the latitude m, both of at most 90 degrees, by sums of their sines
-- and cosines
pub record IsAt (t m x y z : ℕ) : Type 0 where
  pub east : t ≤ quarter
  pub north : m < quarter
  pub a : ℕ
  pub b : ℕ
  pub k : ℕ
  pub e : ℕ
  pub f : ℕ
  pub h : ℕ
  pub g : ℕ
  pub i : ℕ
  pub east_sine : IsEitherSine t a b
  pub east_cosine : IsEitherSine (quarter - t) k e
  pub north_sine : IsEitherSine m f h
  pub north_cosine : IsEitherSine (quarter - m) g i
  pub x_is : x ≡ k * b * (g * h)
  pub y_is : y ≡ a * e * (g * h)
  pub z_is : z ≡ b * e * (f * i)

-- both angles lie in their spans
abbrev pub AreIn : Angles → ℕ → ℕ → Type 0
AreIn s t m = IsIn s.east t × IsIn s.north m

-- both spans are of angles, and no latitude is a pole's
pub record AreAngles (s : Angles) : Type 0 where
  pub east : IsAngleSpan s.east
  pub north : IsAngleSpan s.north
  pub below_pole : s.north.high < quarter

-- ---- signs
-- the angle of which a folded one is left: `behind` if its cosine is below 0, `west` if its sine is
abbrev pub angle_of : Bool → Bool → ℕ → ℤ
angle_of false false t = pos t
angle_of false true t = neg_ℤ (pos t)
angle_of true false t = pos (2 * quarter) -ℤ pos t
angle_of true true t = pos t -ℤ pos (2 * quarter)

-- all angles that are folded into the span lie in the range, which has one, goes at most once around, and from pole
-- to pole
-- if it is not behind
pub record IsRangeOf (r : Range) (behind west : Bool) (s : Span) : Type 0 where
  pub order : r.low ≤ℤ r.high
  pub low : unsigned_abs r.low ≤ 2 * quarter
  pub high : unsigned_abs r.high ≤ 2 * quarter
  pub upright_low : behind ≡ false → unsigned_abs r.low ≤ quarter
  pub upright_high : behind ≡ false → unsigned_abs r.high ≤ quarter
  pub all : (t : ℕ) → IsIn s t → (r.low ≤ℤ angle_of behind west t) × (angle_of behind west t ≤ℤ r.high)

-- a direction before a face, between the columns or the rows of one of these leaves, lies on one side of the middle of
-- the face, and along it in the span
pub record IsSideOf (s : Side) (i size : ℕ) : Type 0 where
  pub span : IsSpan s.span
  pub all : (x : ℕ) (u : ℤ) (w : ℕ) → i ≤ x → x < i + size
      → pos 0 ≤ℤ (face_whole *ℤ u -ℤ along (2 * x) *ℤ pos w)
      → pos 0 ≤ℤ (along (2 * (x + 1)) *ℤ pos w -ℤ face_whole *ℤ u)
      → (n : ℕ) × (u ≡ with_sign s.negative n) × IsAlong s.span n w

-- a direction before a face, whose rows and columns lie in two spans
pub record IsSeen (face : ℕ) (d : Point) (u v : Side) : Type 0 where
  pub w : ℕ
  pub n : ℕ
  pub k : ℕ
  pub w_is : (in_frame face d).w ≡ pos w
  pub u_is : (in_frame face d).u ≡ with_sign u.negative n
  pub v_is : (in_frame face d).v ≡ with_sign v.negative k
  pub along_u : IsAlong u.span n w
  pub along_v : IsAlong v.span k w

-- the place's longitude and latitude, without signs, lie in the spans of the octant
pub record IsInOctant (o : Octant) (p : Place) : Type 0 where
  pub t : ℕ
  pub m : ℕ
  pub angles : AreIn o.angles t m
  pub longitude : (p.longitude ≡ angle_of o.behind o.west t) ⊎ (p.longitude +ℤ pos turn ≡ angle_of o.behind o.west t)
  pub latitude : p.latitude ≡ angle_of false o.south m
