use Rattle.s2list.proofs.Asking.{begun_there, both}
use Rattle.s2list.proofs.ask.intersects_cell_at_counted.Goals as goal

pub returns-clause-answer : goal.returns-clause-answer
returns-clause-answer g c local place =
    both (rw c.end_leaf.ensures.value at (c.begins_at.ensures.answer local.cells))
    (begun_there (g.C.Listed.ids c.args.cells.now) c.args.at c.args.cell local c.end_leaf.ensures.own place.ended
    place.next)
