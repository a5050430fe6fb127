-- Directions, and edges between them.
use Rattle.std.specs.Prelude.{◌≡◌, ◌^◌, ◌≤◌, ◌<◌, ◌⊎◌, ℤ, pos, unsigned_abs}

-- three coordinates
pub record Point : Type 0 where
  pub x : ℤ
  pub y : ℤ
  pub z : ℤ

-- the center, which is no direction
abbrev pub origin : Point
origin = record { x = pos 0; y = pos 0; z = pos 0 }

-- all coordinates are 0
pub record IsZero (p : Point) : Type 0 where
  pub x : p.x ≡ pos 0
  pub y : p.y ≡ pos 0
  pub z : p.z ≡ pos 0

-- a coordinate is 2 ^ 31 or more in size
abbrev pub IsLarge : ℤ → Type 0
IsLarge c = 2 ^ 31 ≤ unsigned_abs c

-- one of the coordinates is
abbrev pub IsTooLarge : Point → Type 0
IsTooLarge p = IsLarge p.x ⊎ IsLarge p.y ⊎ IsLarge p.z

-- each coordinate is less than 2 ^ 31 in size, and not all are 0
pub record IsDirection (p : Point) : Type 0 where
  pub x : unsigned_abs p.x < 2 ^ 31
  pub y : unsigned_abs p.y < 2 ^ 31
  pub z : unsigned_abs p.z < 2 ^ 31
  pub some : ¬ (IsZero p)
