-- Which places of the map lie in a leaf.
use Rattle.std.specs.Prelude.{◌≡◌, ℕ, ◌*◌, ◌/◌, ◌^◌, ◌<◌, ◌⊎◌, ℤ, pos, neg_ℤ, ◌*ℤ◌, ◌≤ℤ◌, ◌<ℤ◌, unsigned_abs}
use Rattle.std.specs.Prelude.{◌+◌, All, List, false, length, true}
use Rattle.s2cell.specs.Cell.{covers, level_of}
use Rattle.s2cell.specs.Curve.{i_of, j_of}
use Rattle.s2cell.specs.declared.TheConstants.{LEAVES}
use Rattle.s2degrees.specs.Degrees.{IsCosine, IsSine, quarter}
use Rattle.s2list.specs.Union.{has_leaf}
use Rattle.s2polygon.specs.Cells.{square}
use Rattle.s2polygon.specs.Directions.{Point}
use Rattle.s2polygon.specs.Frames.{in_frame}
use Rattle.s2polygon.specs.Meets.{InSquare}
use Rattle.s2map.specs.Boxes.{InBox, part_of}
use Rattle.s2map.specs.Map.{inside, place_turned}
use Rattle.s2map.specs.declared.place.MapBox.{MapBox}
use Rattle.s2map.specs.declared.place.MapEdge.{MapEdge}
use Rattle.s2map.specs.declared.place.Place.{Place}
use Rattle.s2map.specs.declared.shape.BoxPart.{BoxPart}
use Rattle.s2map.specs.declared.shape.BoxPart.TheVariants.{Met}

-- the sine of the angle is s / d and its cosine c / d, by a sum of each
pub record HasSides (angle s c : ℤ) (d : ℕ) : Type 0 where
  pub a : ℤ
  pub b : ℕ
  pub k : ℤ
  pub e : ℕ
  pub sine : IsSine angle a b
  pub cosine : IsCosine angle k e
  pub s_is : s ≡ a *ℤ pos e
  pub c_is : c ≡ k *ℤ pos b
  pub d_is : d ≡ b * e

-- the direction is that of the place, by sums of the sines and the cosines of its longitude and its latitude
pub record HasDirection (p : Place) (r : Point) : Type 0 where
  pub s : ℤ
  pub c : ℤ
  pub d : ℕ
  pub t : ℤ
  pub g : ℤ
  pub f : ℕ
  pub east : HasSides p.longitude s c d
  pub north : HasSides p.latitude t g f
  pub x_is : r.x ≡ c *ℤ g
  pub y_is : r.y ≡ s *ℤ g
  pub z_is : r.z ≡ pos d *ℤ t

-- the leaf number `n` holds the place: a direction of the place lies before its face, between its columns and rows or
-- on them
pub record HoldsPlace (n : ℕ) (p : Place) : Type 0 where
  pub leaf : n < LEAVES
  pub direction : Point
  pub is : HasDirection p direction
  pub before : pos 0 <ℤ (in_frame (n / 4 ^ 30) direction).w
  pub within : InSquare (in_frame (n / 4 ^ 30) direction) (square (i_of n) (j_of n) 1)

-- each place of the sphere but its poles, once: its longitude is from -180 up to below 180 degrees
pub record IsProperPlace (p : Place) : Type 0 where
  pub west : neg_ℤ (pos (2 * quarter)) ≤ℤ p.longitude
  pub east : p.longitude <ℤ pos (2 * quarter)
  pub latitude : unsigned_abs p.latitude < quarter

-- the place, or it a turn farther east, lies in the box
abbrev pub InBoxOnTurn : MapBox → Place → Type 0
InBoxOnTurn q p = InBox q p ⊎ InBox q (place_turned (pos 1) p)

-- the box has each place that a leaf of the cell `c` holds
abbrev pub IsBoxOf : ℕ → MapBox → Type 0
IsBoxOf c q = (n : ℕ) (p : Place) → covers c n ≡ true → IsProperPlace p → HoldsPlace n p → InBoxOnTurn q p

-- all places that the leaf `n` holds lie inside the shape
abbrev pub LeafInside : List (List MapEdge) → ℕ → Type 0
LeafInside shape n = (p : Place) → IsProperPlace p → HoldsPlace n p → inside shape p ≡ true

-- none of them does
abbrev pub LeafOutside : List (List MapEdge) → ℕ → Type 0
LeafOutside shape n = (p : Place) → IsProperPlace p → HoldsPlace n p → inside shape p ≡ false

-- the cell `c` lies relative to the shape as a box of it does
abbrev pub IsPartOfCell : List (List MapEdge) → ℕ → BoxPart → Type 0
IsPartOfCell shape c part = (q : MapBox) × IsBoxOf c q × (part ≡ part_of shape q)

-- the cells `u` are of level `k`, and an edge meets a box of each, which no part has whole inside
abbrev pub AreMet : List (List MapEdge) → ℕ → List ℕ → Type 0
AreMet shape k u = All (λ c. (level_of c ≡ k) × IsPartOfCell shape c Met) u

-- there are more cells than `most` of which each is of level `k`, and an edge meets a box of it, or lies inside
pub record HasMore (shape : List (List MapEdge)) (k most : ℕ) : Type 0 where
  pub met : List ℕ
  pub within : List ℕ
  pub are_met : AreMet shape k met
  pub are_inside : (n : ℕ) → has_leaf within n ≡ true → LeafInside shape n
  pub more : most < length met + length within
