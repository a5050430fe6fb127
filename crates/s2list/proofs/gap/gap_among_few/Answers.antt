use Rattle.s2list.proofs.gap.gap_among_few.Goals as goal

pub returns-clause-place : goal.returns-clause-place
returns-clause-place g c packed =
    let found = c.find_id_among_few.ensures in
    rw (c.gap_at.ensures.at found.within) (found.place packed)
