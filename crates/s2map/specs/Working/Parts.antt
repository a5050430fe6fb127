-- The answer after some parts.
use Rattle.std.specs.Prelude.{◌≡◌, Bool, false, List}
use Rattle.std.specs.List.{list_any}
use Rattle.s2map.specs.Boxes.{holds_box, met_by}
use Rattle.s2map.specs.declared.place.MapBox.{MapBox}
use Rattle.s2map.specs.declared.place.MapEdge.{MapEdge}

-- none of the parts has the whole box inside, and it is known whether an edge of them meets it
pub record IsAsked (q : MapBox) (parts : List (List MapEdge)) (met : Bool) : Type 0 where
  pub none : list_any (holds_box q) parts ≡ false
  pub is_met : met ≡ list_any (met_by q) parts
