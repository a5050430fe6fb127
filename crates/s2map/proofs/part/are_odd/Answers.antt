use Rattle.s2map.specs.Map.{passes_on_turns}
use Rattle.s2map.specs.Rings.{origin}
use Rattle.s2polygon.proofs.Steps.{odd_next}
use Rattle.s2map.proofs.part.are_odd.Goals as goal

pub loop-e-preserved : goal.loop-e-preserved
loop-e-preserved c =
    odd_next (passes_on_turns c.args.p) c.args.edges.now c.loop-e.e-index (record { a = origin; b = origin })
    c.loop-e.odd c.passes_on_turns-odd.result c.loop-e-test.true c.loop-e.invariant c.passes_on_turns-odd.ensures
