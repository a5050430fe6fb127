-- The places of an edge.
use Rattle.std.specs.Prelude.{◌≡◌, pos, ◌≤ℤ◌, ◌⊎◌}
use Rattle.s2map.specs.Map.{side}
use Rattle.s2map.specs.declared.place.MapEdge.{MapEdge}
use Rattle.s2map.specs.declared.place.Place.{Place}

-- the place lies on the edge: on the line through its ends, and between them
pub record LiesOn (e : MapEdge) (p : Place) : Type 0 where
  pub line : side e p ≡ pos 0
  pub longitude : ((e.a.longitude ≤ℤ p.longitude) × (p.longitude ≤ℤ e.b.longitude))
      ⊎ ((e.b.longitude ≤ℤ p.longitude) × (p.longitude ≤ℤ e.a.longitude))
  pub latitude : ((e.a.latitude ≤ℤ p.latitude) × (p.latitude ≤ℤ e.b.latitude))
      ⊎ ((e.b.latitude ≤ℤ p.latitude) × (p.latitude ≤ℤ e.a.latitude))
