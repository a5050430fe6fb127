use Rattle.s2union.proofs.search.find.Goals as goal

pub returns-clause-ended : goal.returns-clause-ended
returns-clause-ended c = c.find_counted.ensures.ended c.requires

pub returns-clause-next : goal.returns-clause-next
returns-clause-next c = c.find_counted.ensures.next c.requires
