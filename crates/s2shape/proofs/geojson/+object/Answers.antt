use Rattle.std.proofs.lemmas.Result.{err_from_is_err_and}
use Rattle.json.specs.Value.{items_view}
use Rattle.s2shape.specs.GeoJson.{each, object}
use Rattle.s2shape.specs.Working.Seen.{seen}
use Rattle.s2shape.proofs.Each.{item_ends, item_goes_on, items_done}
use Rattle.s2shape.proofs.geojson.+object.Goals as goal

pub read_objects-returns-in_err-read_object : goal.read_objects-returns-in_err-read_object
read_objects-returns-in_err-read_object t c =
    let p = err_from_is_err_and c.from_residual.result c.from_residual.ensures.1 in
    rw (p.1, p.2) (
    item_ends
    (object c.args.depth)
    c.in_err-read_object.field-0.0
    c.args.items.now
    c.loop-item.item-index
    c.item-item.result
    (seen c.loop-item.reading)
    (each (object c.args.depth) (items_view c.args.items.now) (seen c.args.reading.now))
    c.loop-item-test.true
    c.item-item.is
    c.in_err-read_object.ensures
    c.loop-item.invariant
    )

pub read_objects-loop-item-preserved : goal.read_objects-loop-item-preserved
read_objects-loop-item-preserved t c =
    item_goes_on
    (object c.args.depth)
    c.args.items.now
    c.loop-item.item-index
    c.item-item.result
    (seen c.loop-item.reading)
    (seen c.read_object.new.reading)
    (each (object c.args.depth) (items_view c.args.items.now) (seen c.args.reading.now))
    c.loop-item-test.true
    c.item-item.is
    c.in_ok-read_object.ensures
    c.loop-item.invariant

pub read_objects-returns : goal.read_objects-returns
read_objects-returns t c =
    items_done
    (object c.args.depth)
    c.args.items.now
    c.loop-item.item-index
    (seen c.loop-item.reading)
    (each (object c.args.depth) (items_view c.args.items.now) (seen c.args.reading.now))
    c.loop-item-test.false
    c.loop-item.invariant
