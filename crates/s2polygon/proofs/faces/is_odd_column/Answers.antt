use Rattle.std.proofs.Common.{ap, ◌∙◌}
use Rattle.s2polygon.specs.Crosses.{crosses_column_at}
use Rattle.s2polygon.proofs.Steps.{odd_next}
use Rattle.s2polygon.proofs.faces.is_odd_column.Goals as goal

pub loop-e-preserved : goal.loop-e-preserved
loop-e-preserved c =
    let test = crosses_column_at c.args.line.at c.args.line.low c.args.line.high in
    odd_next test c.args.edges.now c.loop-e.e-index c.e-item.result c.loop-e.odd c.crosses_column-odd.result
    c.loop-e-test.true c.loop-e.invariant (c.crosses_column-odd.ensures ∙ ap test (c.framed.ensures ∙ c.e-item.is))
