use Rattle.s2polygon.proofs.Steps.{either_answer}
use Rattle.s2map.proofs.near.changes.Goals as goal

pub returns : goal.returns
returns c =
    either_answer _ _ _ _
    (either_answer c.passes_north.result c.passes_north-2.result _ _ c.passes_north.ensures c.passes_north-2.ensures)
    (either_answer c.passes_over.result c.passes_over-2.result _ _ c.passes_over.ensures c.passes_over-2.ensures)
