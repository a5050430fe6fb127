use Rattle.std.proofs.lemmas.Result.{err_from_is_err_and}
use Rattle.s2shape.specs.Reading.{times}
use Rattle.s2shape.specs.Working.Seen.{seen}
use Rattle.s2shape.specs.Wkb.{geometry_at}
use Rattle.s2shape.proofs.Times.{ends, goes_on, is_done}
use Rattle.s2shape.proofs.wkb.+geometry.Goals as goal

pub read_members-returns-in_err-rest : goal.read_members-returns-in_err-rest
read_members-returns-in_err-rest t c =
    let p = err_from_is_err_and c.from_residual.result c.from_residual.ensures.1 in
    let step = geometry_at c.args.lists c.args.list in
    rw (p.1, p.2) (
    ends
    step
    c.in_err-rest.field-0.0
    c.args.count
    c.loop.counter
    (seen c.loop.reading, c.loop.rest.now)
    (times c.args.count step (seen c.args.reading.now, c.args.bytes.now))
    c.loop-test.true
    c.in_err-rest.ensures
    c.loop.invariant
    )

pub read_members-loop-preserved : goal.read_members-loop-preserved
read_members-loop-preserved t c =
    let step = geometry_at c.args.lists c.args.list in
    goes_on
    step
    c.args.count
    c.loop.counter
    (seen c.loop.reading, c.loop.rest.now)
    (seen c.read_geometry.new.reading, c.in_ok-rest.rest.now)
    (times c.args.count step (seen c.args.reading.now, c.args.bytes.now))
    c.loop-test.true
    c.in_ok-rest.ensures
    c.loop.invariant

pub read_members-returns : goal.read_members-returns
read_members-returns t c =
    let step = geometry_at c.args.lists c.args.list in
    is_done
    step
    c.args.count
    c.loop.counter
    (seen c.loop.reading, c.loop.rest.now)
    (times c.args.count step (seen c.args.reading.now, c.args.bytes.now))
    c.loop-test.false
    c.loop.invariant
