-- The direction of a place.
use Rattle.std.specs.Prelude.{ℕ, ◌*◌, ◌^◌, ◌≤◌, ◌<◌, ℤ, pos, ◌-ℤ◌, ◌*ℤ◌, unsigned_abs}
use Rattle.std.specs.Float.{Float}
use Rattle.s2degrees.specs.Degrees.{IsCosine, IsSine, quarter}
use Rattle.s2degrees.specs.Femtodegrees.{IsFemtodegreesOf, IsWithin}
use Rattle.s2degrees.specs.declared.fault.DegreesFault.{DegreesFault}
use Rattle.s2degrees.specs.declared.fault.DegreesFault.TheVariants.{Latitude, Longitude}
use Rattle.s2polygon.specs.Directions.{Point}

-- y is at most 0.501 away from (2^31 - 1) * a / b
abbrev pub IsOnGrid : ℤ → ℤ → ℕ → Type 0
IsOnGrid y a b = 1000 * unsigned_abs (y *ℤ pos b -ℤ pos 2147483647 *ℤ a) ≤ 501 * b

-- each coordinate of the direction is on the grid beside what sines and cosines of the longitude and the latitude say
pub record IsDirectionOf (longitude latitude : ℤ) (d : Point) : Type 0 where
  pub x : (a c : ℤ) (b e : ℕ) → IsCosine longitude a b → IsCosine latitude c e → IsOnGrid d.x (a *ℤ c) (b * e)
  pub y : (a c : ℤ) (b e : ℕ) → IsSine longitude a b → IsCosine latitude c e → IsOnGrid d.y (a *ℤ c) (b * e)
  pub z : (a : ℤ) (b : ℕ) → IsSine latitude a b → IsOnGrid d.z a b

-- a latitude is beyond a pole
abbrev pub IsBeyondPole : ℤ → Type 0
IsBeyondPole latitude = quarter < unsigned_abs latitude

-- the direction of a place whose longitude and latitude are doubles, in degrees
pub record IsDirectionAt (longitude latitude : Float) (d : Point) : Type 0 where
  pub east : ℤ
  pub north : ℤ
  pub east_is : IsFemtodegreesOf longitude east
  pub north_is : IsFemtodegreesOf latitude north
  pub near : IsDirectionOf east north d

-- a longitude from -540 to 540
abbrev pub IsLongitude : Float → Type 0
IsLongitude x = IsWithin (540 * 10 ^ 15) x

-- a latitude from -90 to 90
abbrev pub IsLatitude : Float → Type 0
IsLatitude x = IsWithin quarter x

-- a longitude and a latitude, as maps have them
abbrev pub IsOnMap : Float → Float → Type 0
IsOnMap longitude latitude = IsLongitude longitude × IsLatitude latitude

-- what the fault of two doubles says is so
abbrev pub PlaceFaultIs : Float → Float → DegreesFault → Type 0
PlaceFaultIs longitude latitude Longitude = ¬ (IsLongitude longitude)
PlaceFaultIs longitude latitude Latitude = IsLongitude longitude × ¬ (IsLatitude latitude)

-- a sum of the sine of the angle has this place on the grid
abbrev pub HasSine : ℤ → ℤ → Type 0
HasSine angle y = (a : ℤ) × (b : ℕ) × IsSine angle a b × IsOnGrid y a b
