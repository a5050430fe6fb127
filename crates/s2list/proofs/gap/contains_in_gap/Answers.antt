use Rattle.s2list.proofs.Asking.{both}
use Rattle.s2list.proofs.Gapping.{either_test, held_by_gap}
use Rattle.s2list.proofs.gap.contains_in_gap.Goals as goal

pub returns : goal.returns
returns c u gap local own b =
    both (either_test c.args.id c.args.gap.held c.args.gap.next c.args.id)
    (held_by_gap u c.args.gap c.args.id gap local own b)
