use Rattle.std.proofs.Common.{arith, rules}
use Rattle.s2list.proofs.Gapping.{ended_before_gap}
use Rattle.s2list.proofs.gap.start_after.Goals as goal

pub returns-then-gap-id-clause-ended : goal.returns-then-gap-id-clause-ended
returns-then-gap-id-clause-ended c u gap packed =
    ended_before_gap u c.args.gap c.args.id gap packed (omega arith) (search rules)
