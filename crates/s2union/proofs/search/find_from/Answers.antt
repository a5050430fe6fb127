use Rattle.s2union.proofs.search.find_from.Goals as goal

pub returns-clause-ended : goal.returns-clause-ended
returns-clause-ended c = c.find_from.ensures.ended c.requires.packed c.requires.ended

pub returns-clause-next : goal.returns-clause-next
returns-clause-next c = c.find_from.ensures.next c.requires.packed c.requires.ended
