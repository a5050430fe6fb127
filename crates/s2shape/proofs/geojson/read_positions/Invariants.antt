use Rattle.std.proofs.Common.{◌≡◌, drop}
use Rattle.json.specs.Value.{items_view}
use Rattle.s2shape.specs.GeoJson.{each, position}
use Rattle.s2shape.specs.Working.Seen.{seen}
use Rattle.s2shape.proofs.geojson.read_positions.Given as goal

abbrev pub invariant-loop-item : goal.invariant-loop-item
invariant-loop-item l = each position (items_view (drop l.item-index l.items)) (seen l.reading)
    ≡ each position (items_view l.items) (seen l.fn.reading)
