-- Boxes of the map, and whether an edge meets one.
use Rattle.std.specs.Prelude.{◌≤◌, ℤ, pos, ◌≤ℤ◌, int_le, int_lt, Bool, not, cond, ◌&&◌, ◌||◌}
use Rattle.std.specs.Prelude.{List}
use Rattle.std.specs.Bool.{beq}
use Rattle.std.specs.List.{list_any}
use Rattle.s2map.specs.Map.{inside_part, side, turned, turns}
use Rattle.s2map.specs.Map.{IsMapPlace}
use Rattle.s2map.specs.declared.place.MapBox.{MapBox}
use Rattle.s2map.specs.declared.place.MapEdge.{MapEdge}
use Rattle.s2map.specs.declared.place.Place.{Place}
use Rattle.s2map.specs.declared.shape.BoxPart.{BoxPart}
use Rattle.s2map.specs.declared.shape.BoxPart.TheVariants.{Out, In, Met}

-- the box's corner at its west and south
abbrev pub south_west : MapBox → Place
south_west q = record { longitude = q.west; latitude = q.south }

-- its corner at its east and north
abbrev pub north_east : MapBox → Place
north_east q = record { longitude = q.east; latitude = q.north }

-- a box has a place, and its corners are places
pub record IsBox (q : MapBox) : Type 0 where
  pub first : IsMapPlace (south_west q)
  pub last : IsMapPlace (north_east q)
  pub wide : q.west ≤ℤ q.east
  pub high : q.south ≤ℤ q.north

-- the place lies in the box
pub record InBox (q : MapBox) (p : Place) : Type 0 where
  pub west : q.west ≤ℤ p.longitude
  pub east : p.longitude ≤ℤ q.east
  pub south : q.south ≤ℤ p.latitude
  pub north : p.latitude ≤ℤ q.north

-- who goes along the edge goes north and east, or south and west
abbrev pub rises : MapEdge → Bool
rises e = beq (int_lt e.b.longitude e.a.longitude) (int_lt e.b.latitude e.a.latitude)

-- the box's western corner that lies farthest to one side of such an edge
abbrev pub west_corner : MapBox → MapEdge → Place
west_corner q e = record { longitude = q.west; latitude = cond (rises e) q.north q.south }

-- and its eastern corner that lies farthest to the other side
abbrev pub east_corner : MapBox → MapEdge → Place
east_corner q e = record { longitude = q.east; latitude = cond (rises e) q.south q.north }

-- two numbers are both above 0, or both below it
abbrev pub are_beside : ℤ → ℤ → Bool
are_beside x y = (int_lt (pos 0) x && int_lt (pos 0) y) || (int_lt x (pos 0) && int_lt y (pos 0))

-- the edge lies west of all places of the box but those of its western side
abbrev pub lies_west : MapBox → MapEdge → Bool
lies_west q e = int_le e.a.longitude q.west && int_le e.b.longitude q.west

-- it lies east of the box
abbrev pub lies_east : MapBox → MapEdge → Bool
lies_east q e = int_lt q.east e.a.longitude && int_lt q.east e.b.longitude

-- it lies south of the box
abbrev pub lies_south : MapBox → MapEdge → Bool
lies_south q e = int_lt e.a.latitude q.south && int_lt e.b.latitude q.south

-- it lies north of the box
abbrev pub lies_north : MapBox → MapEdge → Bool
lies_north q e = int_lt q.north e.a.latitude && int_lt q.north e.b.latitude

-- the box lies on one side of the line through the edge's ends
abbrev pub lies_aside : MapBox → MapEdge → Bool
lies_aside q e = are_beside (side e (west_corner q e)) (side e (east_corner q e))

-- the edge meets the box, off its western side
abbrev pub meets : MapBox → MapEdge → Bool
meets q e =
    not (lies_west q e) && (not (lies_east q e) && (not (lies_south q e) && (not (lies_north q e)
    && not (lies_aside q e))))

-- the edge meets it on a turn
abbrev pub meets_on_turns : MapBox → MapEdge → Bool
meets_on_turns q e = list_any (λ k. meets q (turned k e)) turns

-- an edge of the part meets it
abbrev pub met_by : MapBox → List MapEdge → Bool
met_by q es = list_any (meets_on_turns q) es

-- the part has the whole box inside: no edge of it meets the box, and the corner lies inside
abbrev pub holds_box : MapBox → List MapEdge → Bool
holds_box q es = not (met_by q es) && inside_part (south_west q) es

-- how the box lies: a part has it inside, or else an edge meets it, or else it is outside
abbrev pub part_of : List (List MapEdge) → MapBox → BoxPart
part_of shape q = cond (list_any (holds_box q) shape) In (cond (list_any (met_by q) shape) Met Out)
