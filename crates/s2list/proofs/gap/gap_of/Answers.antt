use Rattle.s2list.proofs.gap.gap_of.Goals as goal

pub returns-then-lies_in_gap-clause-place : goal.returns-then-lies_in_gap-clause-place
returns-then-lies_in_gap-clause-place g c packed = c.lies_in_gap.ensures c.if-lies_in_gap.true _ c.requires packed

pub returns-clause-place : goal.returns-clause-place
returns-clause-place g c packed =
    let found = c.find_id_from.ensures in
    rw (c.gap_at.ensures.at found.within)
    (found.place packed (c.start_after-start.ensures.ended _ c.requires packed))
