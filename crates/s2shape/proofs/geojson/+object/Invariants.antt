use Rattle.std.proofs.Common.{◌≡◌, ◌+◌, ◌*◌, drop}
use Rattle.json.specs.Value.{items_view}
use Rattle.s2shape.specs.GeoJson.{each, object}
use Rattle.s2shape.specs.Working.Seen.{seen}
use Rattle.s2shape.proofs.geojson.+object.Given as goal

abbrev pub decreases-read_object : goal.decreases-read_object
decreases-read_object l = 3 * l.depth

abbrev pub decreases-read_list : goal.decreases-read_list
decreases-read_list l = 3 * l.depth + 2

abbrev pub decreases-read_objects : goal.decreases-read_objects
decreases-read_objects l = 3 * l.depth + 1

abbrev pub invariant-read_objects-loop-item : goal.invariant-read_objects-loop-item
invariant-read_objects-loop-item l = each (object l.depth) (items_view (drop l.item-index l.items)) (seen l.reading)
    ≡ each (object l.depth) (items_view l.items) (seen l.fn.reading)
