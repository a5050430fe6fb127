use Rattle.std.proofs.Common.{arith, rules}
use Rattle.s2list.proofs.Normal.{normal_from_leaves}
use Rattle.s2union.proofs.Growing.{grown_past, grown_up_to}
use Rattle.s2cover.proofs.cut_to_level.union_cut.Goals as goal

pub returns-then-branch-most-clause-many : goal.returns-then-branch-most-clause-many
returns-then-branch-most-clause-many g c =
    grown_past (c.in_ok-write_cut.ensures.made c.requires.local) (omega (arith, c.if-branch-most.true))

pub from_normalized-requires : goal.from_normalized-requires
from_normalized-requires g c =
    let local = (grown_up_to (c.in_ok-write_cut.ensures.made c.requires.local)
    (omega (arith, c.if-branch-most.false))).local in
    search rules

pub returns-clause-normal : goal.returns-clause-normal
returns-clause-normal g c =
    let all = grown_up_to (c.in_ok-write_cut.ensures.made c.requires.local) (omega (arith, c.if-branch-most.false)) in
    let normal = normal_from_leaves _ _ all.local all.leaves in
    search rules

pub returns-clause-leaves : goal.returns-clause-leaves
returns-clause-leaves g c =
    let leaves = (grown_up_to (c.in_ok-write_cut.ensures.made c.requires.local)
    (omega (arith, c.if-branch-most.false))).leaves in
    search rules

pub returns-clause-within : goal.returns-clause-within
returns-clause-within g c =
    let len = (grown_up_to (c.in_ok-write_cut.ensures.made c.requires.local)
    (omega (arith, c.if-branch-most.false))).len_is in
    search rules
