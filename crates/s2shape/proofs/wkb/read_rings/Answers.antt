use Rattle.std.proofs.lemmas.Result.{err_from_is_err_and}
use Rattle.s2shape.specs.Reading.{times}
use Rattle.s2shape.specs.Working.Seen.{seen}
use Rattle.s2shape.specs.Wkb.{ring_at}
use Rattle.s2shape.proofs.Times.{ends, goes_on, is_done}
use Rattle.s2shape.proofs.wkb.read_rings.Goals as goal

pub returns-in_err-rest : goal.returns-in_err-rest
returns-in_err-rest c =
    let p = err_from_is_err_and c.from_residual.result c.from_residual.ensures.1 in
    let step = ring_at c.args.endian c.args.stride in
    rw (p.1, p.2) (
    ends
    step
    c.in_err-rest.field-0.0
    c.args.count
    c.loop.counter
    (seen c.loop.reading, c.loop.rest.now)
    (times c.args.count step (seen c.args.reading.now, c.args.bytes.now))
    c.loop-test.true
    c.in_err-rest.ensures
    c.loop.invariant
    )

pub loop-preserved : goal.loop-preserved
loop-preserved c =
    let step = ring_at c.args.endian c.args.stride in
    goes_on
    step
    c.args.count
    c.loop.counter
    (seen c.loop.reading, c.loop.rest.now)
    (seen c.read_ring.new.reading, c.in_ok-rest.rest.now)
    (times c.args.count step (seen c.args.reading.now, c.args.bytes.now))
    c.loop-test.true
    c.in_ok-rest.ensures
    c.loop.invariant

pub returns : goal.returns
returns c =
    let step = ring_at c.args.endian c.args.stride in
    is_done
    step
    c.args.count
    c.loop.counter
    (seen c.loop.reading, c.loop.rest.now)
    (times c.args.count step (seen c.args.reading.now, c.args.bytes.now))
    c.loop-test.false
    c.loop.invariant
