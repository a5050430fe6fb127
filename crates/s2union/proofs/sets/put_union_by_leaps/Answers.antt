use Rattle.std.proofs.Common.{arith, rules}
use Rattle.s2union.proofs.Growing.{grown_all}
use Rattle.s2union.proofs.sets.put_union_by_leaps.Goals as goal

pub returns-clause-leaves : goal.returns-clause-leaves
returns-clause-leaves c =
    let made = c.in_ok-write_union.ensures.made c.requires.x_local c.requires.y_local in
    let leaves = (grown_all made (λ few. omega arith)).leaves in
    search rules

pub returns-clause-local : goal.returns-clause-local
returns-clause-local c =
    let made = c.in_ok-write_union.ensures.made c.requires.x_local c.requires.y_local in
    let local = (grown_all made (λ few. omega arith)).local in
    search rules
