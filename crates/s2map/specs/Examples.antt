-- Shapes whose places are known.
use Rattle.std.specs.Prelude.{◌^◌, ℤ, pos, neg_ℤ, ◌*ℤ◌, Bool, [], ◌∷◌}
use Rattle.s2map.specs.Map.{inside}
use Rattle.s2map.specs.Rings.{rings_edges}
use Rattle.s2map.specs.declared.place.Place.{Place}

-- a place in whole degrees
abbrev pub degrees : ℤ → ℤ → Place
degrees x y = record { longitude = x *ℤ pos (10 ^ 15); latitude = y *ℤ pos (10 ^ 15) }

-- whether the place lies inside the ring of these four corners
abbrev pub inside_four : Place → Place → Place → Place → Place → Bool
inside_four a b c d p = inside (rings_edges (a ∷ b ∷ c ∷ d ∷ []) (4 ∷ []) 1 ∷ []) p

-- inside the square from 0 to 10 degrees east and north
abbrev pub inside_square : Place → Bool
inside_square = inside_four (degrees (pos 0) (pos 0)) (degrees (pos 10) (pos 0)) (degrees (pos 10) (pos 10))
    (degrees (pos 0) (pos 10))

-- inside the square from 170 to 190 degrees east, over the date line, and from 0 to 10 degrees north
abbrev pub inside_dateline : Place → Bool
inside_dateline = inside_four (degrees (pos 170) (pos 0)) (degrees (pos 190) (pos 0)) (degrees (pos 190) (pos 10))
    (degrees (pos 170) (pos 10))

-- inside the ring from (0, 0) by (10, 0) and (20, 10) to (10, 10), whose sides slant to the east
abbrev pub inside_slant : Place → Bool
inside_slant = inside_four (degrees (pos 0) (pos 0)) (degrees (pos 10) (pos 0)) (degrees (pos 20) (pos 10))
    (degrees (pos 10) (pos 10))

-- inside the ring around the north pole, from 80 degrees north on
abbrev pub inside_cap : Place → Bool
inside_cap = inside_four (degrees (neg_ℤ (pos 180)) (pos 80)) (degrees (pos 180) (pos 80))
    (degrees (pos 180) (pos 90)) (degrees (neg_ℤ (pos 180)) (pos 90))
