use Rattle.s2map.proofs.Answers.{seven}
use Rattle.s2map.proofs.edge.passes_on_turns.Goals as goal

pub returns : goal.returns
returns c = seven c.passes_on_turn.result c.passes_on_turn-2.result c.passes_on_turn-3.result
    c.passes_on_turn-7.result c.passes_on_turn-4.result c.passes_on_turn-5.result c.passes_on_turn-6.result
    _ _ _ _ _ _ _
    c.passes_on_turn.ensures c.passes_on_turn-2.ensures c.passes_on_turn-3.ensures
    c.passes_on_turn-7.ensures c.passes_on_turn-4.ensures c.passes_on_turn-5.ensures c.passes_on_turn-6.ensures
