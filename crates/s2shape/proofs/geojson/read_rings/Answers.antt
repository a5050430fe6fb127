use Rattle.std.proofs.lemmas.Result.{err_from_is_err_and}
use Rattle.json.specs.Value.{items_view}
use Rattle.s2shape.specs.GeoJson.{each, ring}
use Rattle.s2shape.specs.Working.Seen.{seen}
use Rattle.s2shape.proofs.Each.{item_ends, item_goes_on, items_done}
use Rattle.s2shape.proofs.geojson.read_rings.Goals as goal

pub returns-in_err-read_ring : goal.returns-in_err-read_ring
returns-in_err-read_ring c =
    let p = err_from_is_err_and c.from_residual.result c.from_residual.ensures.1 in
    rw (p.1, p.2) (
    item_ends
    ring
    c.in_err-read_ring.field-0.0
    c.args.items.now
    c.loop-item.item-index
    c.item-item.result
    (seen c.loop-item.reading)
    (each ring (items_view c.args.items.now) (seen c.args.reading.now))
    c.loop-item-test.true
    c.item-item.is
    c.in_err-read_ring.ensures
    c.loop-item.invariant
    )

pub loop-item-preserved : goal.loop-item-preserved
loop-item-preserved c =
    item_goes_on
    ring
    c.args.items.now
    c.loop-item.item-index
    c.item-item.result
    (seen c.loop-item.reading)
    (seen c.read_ring.new.reading)
    (each ring (items_view c.args.items.now) (seen c.args.reading.now))
    c.loop-item-test.true
    c.item-item.is
    c.in_ok-read_ring.ensures
    c.loop-item.invariant

pub returns : goal.returns
returns c =
    items_done
    ring
    c.args.items.now
    c.loop-item.item-index
    (seen c.loop-item.reading)
    (each ring (items_view c.args.items.now) (seen c.args.reading.now))
    c.loop-item-test.false
    c.loop-item.invariant
