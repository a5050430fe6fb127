-- How large the numbers are.
use Rattle.std.specs.Prelude.{◌≤◌, ◌^◌, unsigned_abs}
use Rattle.s2map.specs.declared.place.MapEdge.{MapEdge}
use Rattle.s2map.specs.declared.place.Place.{Place}

-- a place is near enough to the map that differences fit, some turns away or not
pub record IsNear (p : Place) : Type 0 where
  pub longitude : unsigned_abs p.longitude ≤ 2 ^ 61
  pub latitude : unsigned_abs p.latitude ≤ 2 ^ 57

-- both ends of an edge are
pub record IsNearEdge (e : MapEdge) : Type 0 where
  pub a : IsNear e.a
  pub b : IsNear e.b
