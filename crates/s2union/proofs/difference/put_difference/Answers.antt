use Rattle.std.proofs.Common.{arith, rules}
use Rattle.s2union.proofs.Growing.{grown_past, grown_up_to}
use Rattle.s2union.proofs.difference.put_difference.Goals as goal

pub returns-then-branch-limit-clause-local : goal.returns-then-branch-limit-clause-local
returns-then-branch-limit-clause-local c =
    let made = c.in_ok-write_difference.ensures.made c.requires.x_local c.requires.y_local in
    let local = (grown_up_to made (omega (arith, c.if-branch-limit.true))).local in
    search rules

pub returns-else-branch-limit-clause-many : goal.returns-else-branch-limit-clause-many
returns-else-branch-limit-clause-many c _ =
    let made = c.in_ok-write_difference.ensures.made c.requires.x_local c.requires.y_local in
    grown_past made (omega (arith, c.if-branch-limit.false))
