use Rattle.s2list.proofs.Asking.{both}
use Rattle.s2list.proofs.Gapping.{either_test, met_by_gap}
use Rattle.s2list.proofs.gap.intersects_in_gap.Goals as goal

pub returns : goal.returns
returns c u gap local own b =
    rw (c.first_of.ensures own, c.end_of.ensures own)
    (both (either_test _ _ _ _) (met_by_gap u c.args.gap c.args.id gap local own b))
