use Rattle.std.proofs.Common.{◌-◌, ◌^◌, [], arith, refl, rules}
use Rattle.s2list.proofs.Normal.{normal_from_leaves}
use Rattle.s2union.proofs.Growing.{grown_gap}
use Rattle.s2union.proofs.union.CellUnion.from_range.Goals as goal

pub returns-clause-leaves : goal.returns-clause-leaves
returns-clause-leaves c =
    let end = c.end_leaf.ensures.most in
    let all = grown_gap (c.in_ok-put_gap.ensures.put (λ h. omega arith) []
    (record { list = c.put_gap.new.out.list; most = 2 ^ 64 - 1 })
    (record { same_most = refl; len_is = λ few. refl; front = λ few. c.new-cells.ensures.items }))
    (λ few. omega arith) in
    let leaves = rw (c.first_leaf.ensures.value, c.end_leaf.ensures.value) at all.leaves in
    search rules

pub returns-clause-local : goal.returns-clause-local
returns-clause-local c =
    let end = c.end_leaf.ensures.most in
    let local = (grown_gap (c.in_ok-put_gap.ensures.put (λ h. omega arith) []
    (record { list = c.put_gap.new.out.list; most = 2 ^ 64 - 1 })
    (record { same_most = refl; len_is = λ few. refl; front = λ few. c.new-cells.ensures.items }))
    (λ few. omega arith)).local in
    search rules

pub invariant_of-result : goal.invariant_of-result
invariant_of-result c = returns-clause-local c

pub returns-clause-normal : goal.returns-clause-normal
returns-clause-normal c = normal_from_leaves _ _ (returns-clause-local c) (returns-clause-leaves c)
