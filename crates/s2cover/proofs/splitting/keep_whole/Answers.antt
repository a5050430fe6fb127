use Rattle.std.proofs.Common.{rules, arith}
use Rattle.s2cover.proofs.Splittings.{closing_none, closing_next, closed, ended, popped}
use Rattle.s2cover.proofs.splitting.keep_whole.Goals as goal

pub loop-quadrant-init : goal.loop-quadrant-init
loop-quadrant-init g c = closing_none g.R.RoughRegion.id c.args.kept.now.items c.args.ahead.now.items

pub returns-in_err-add-clause-times : goal.returns-in_err-add-clause-times
returns-in_err-add-clause-times g c = search rules

pub returns-in_err-add-clause-len : goal.returns-in_err-add-clause-len
returns-in_err-add-clause-len g c = search rules

pub returns-in_err-add-clause-each : goal.returns-in_err-add-clause-each
returns-in_err-add-clause-each g c = search rules

pub loop-quadrant-smaller : goal.loop-quadrant-smaller
loop-quadrant-smaller g c = popped c.loop-quadrant.ahead.items c.pop.new.self.items c.in-Some.quadrant
    c.in-Some.ensures.items

pub loop-quadrant-preserved : goal.loop-quadrant-preserved
loop-quadrant-preserved g c = closing_next g.R.RoughRegion.id c.add.new.list.items c.pop.new.self.items
    c.in-Some.quadrant c.cell_at.result c.in-Some.ensures.items c.in_ok-add.ensures c.cell_at.ensures
    c.loop-quadrant.invariant

pub returns-clause-times : goal.returns-clause-times
returns-clause-times g c =
    let none = ended c.loop-quadrant.ahead.items
    (omega (arith, c.in_default.ensures.cases.0, c.loop-quadrant.ahead.ok)) in
    closed g.R.RoughRegion.id none c.loop-quadrant.invariant

pub returns-clause-len : goal.returns-clause-len
returns-clause-len g c =
    let l = c.loop-quadrant.invariant.len in
    omega (arith, c.in_default.ensures.cases.0, c.loop-quadrant.ahead.ok)

pub returns-clause-each : goal.returns-clause-each
returns-clause-each g c = c.loop-quadrant.invariant.each
