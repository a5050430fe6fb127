use Rattle.std.proofs.Common.{◌≡◌, drop}
use Rattle.json.specs.Value.{items_view}
use Rattle.s2shape.specs.GeoJson.{each, one}
use Rattle.s2shape.specs.Working.Seen.{seen}
use Rattle.s2shape.proofs.geojson.read_many.Given as goal

abbrev pub invariant-loop-item : goal.invariant-loop-item
invariant-loop-item l = each (one l.kind) (items_view (drop l.item-index l.items)) (seen l.reading)
    ≡ each (one l.kind) (items_view l.items) (seen l.fn.reading)
