-- The map of longitudes and latitudes: which edges pass north of a place, and which places lie inside.
use Rattle.std.specs.Prelude.{◌*◌, ◌≤◌, ℤ, pos, neg_ℤ, ◌+ℤ◌, ◌-ℤ◌, ◌*ℤ◌, unsigned_abs, int_le, int_lt}
use Rattle.std.specs.Prelude.{Bool, not, cond, ◌&&◌, List, [], ◌∷◌, map}
use Rattle.std.specs.List.{list_any}
use Rattle.s2degrees.specs.Degrees.{quarter, turn}
use Rattle.s2polygon.specs.Parity.{is_odd_by}
use Rattle.s2map.specs.declared.place.MapEdge.{MapEdge}
use Rattle.s2map.specs.declared.place.Place.{Place}

-- a place has a longitude from -540 to 540 degrees, and a latitude from -90 to 90
pub record IsMapPlace (p : Place) : Type 0 where
  pub longitude : unsigned_abs p.longitude ≤ 6 * quarter
  pub latitude : unsigned_abs p.latitude ≤ quarter

-- both ends of the edge are places
pub record IsMapEdge (e : MapEdge) : Type 0 where
  pub a : IsMapPlace e.a
  pub b : IsMapPlace e.b

-- on which side of the line through the edge's ends a place lies: above 0 on the left of who goes from `a` to `b`
abbrev pub side : MapEdge → Place → ℤ
side e p =
    (e.b.longitude -ℤ e.a.longitude) *ℤ (p.latitude -ℤ e.a.latitude)
    -ℤ (p.longitude -ℤ e.a.longitude) *ℤ (e.b.latitude -ℤ e.a.latitude)

-- an end of an edge is no farther east than the place
abbrev pub is_west : Place → Place → Bool
is_west p c = int_le c.longitude p.longitude

-- the edge passes north of the place: of its ends just one is farther east than the place, and the place lies on the
-- right of an edge that goes east, and on the left of one that goes west
abbrev pub passes_north : Place → MapEdge → Bool
passes_north p e =
    cond (is_west p e.a)
    (not (is_west p e.b) && int_lt (side e p) (pos 0))
    (is_west p e.b && int_lt (pos 0) (side e p))

-- the place a number of turns farther east
abbrev pub place_turned : ℤ → Place → Place
place_turned k p = record p { longitude = p.longitude +ℤ k *ℤ pos turn }

-- the edge a number of turns farther east
abbrev pub turned : ℤ → MapEdge → MapEdge
turned k e = record { a = place_turned k e.a; b = place_turned k e.b }

-- the turns on which an edge may pass north of a place
abbrev pub turns : List ℤ
turns = neg_ℤ (pos 3) ∷ neg_ℤ (pos 2) ∷ neg_ℤ (pos 1) ∷ pos 0 ∷ pos 1 ∷ pos 2 ∷ pos 3 ∷ []

-- the edge on each turn
abbrev pub on_turns : MapEdge → List MapEdge
on_turns e = map (λ k. turned k e) turns

-- the edge passes north of the place on an odd number of turns
abbrev pub passes_on_turns : Place → MapEdge → Bool
passes_on_turns p e = is_odd_by (λ k. passes_north p (turned k e)) turns

-- the place lies inside the part: edges pass north of it an odd number of times
abbrev pub inside_part : Place → List MapEdge → Bool
inside_part p es = is_odd_by (passes_on_turns p) es

-- the place lies inside the shape: inside one of its parts
abbrev pub inside : List (List MapEdge) → Place → Bool
inside shape p = list_any (inside_part p) shape
