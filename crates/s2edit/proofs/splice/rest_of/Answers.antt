use Rattle.std.proofs.Common.{◌-◌, ◌^◌, [], arith, refl, rules}
use Rattle.s2cell.specs.Cell.{IsCell, level_of, place_of}
use Rattle.s2cell.proofs.Leaves.{within_from_inside}
use Rattle.s2list.proofs.Lengths.{level_from_within}
use Rattle.s2edit.proofs.Rest.{rest_leaves, rest_local}
use Rattle.s2edit.proofs.splice.rest_of.Goals as goal

pub overflow_sub-level : goal.overflow_sub-level
overflow_sub-level c = rw (c.level.ensures.value, c.level-2.ensures.value)
    (let held : IsCell c.args.cell = (level_of c.args.cell, place_of c.args.cell, c.id-2.ensures.cell) in
    level_from_within c.args.cell c.args.holder held
    (level_of c.args.holder, place_of c.args.holder, c.id.ensures.cell)
    (within_from_inside c.args.cell c.args.holder held c.requires))

pub returns-clause-leaves : goal.returns-clause-leaves
returns-clause-leaves c x =
    let start = c.first_leaf-2.ensures.most in
    let end = c.end_leaf-2.ensures.most in
    let one = c.in_ok-count.ensures.put (λ h. omega arith) []
    (record { list = c.put_gap.new.out.list; most = 2 ^ 64 - 1 })
    (record { same_most = refl; len_is = λ few. refl; front = λ few. c.in_ok-rest.ensures.items }) in
    let both = c.in_ok-put_gap.ensures.put (λ h. omega arith) one.0
    (record { list = c.put_gap.new.out.list; most = 2 ^ 64 - 1 }) one.2 in
    let leaf = rest_leaves c.args.holder c.args.cell c.first_leaf-2.ensures.own c.requires
    (c.first_leaf.ensures.value, c.first_leaf-2.ensures.value, c.end_leaf.ensures.value, c.end_leaf-2.ensures.value)
    one.0 both.0 one.1 both.1 both.2 x in
    search rules

pub returns-clause-local : goal.returns-clause-local
returns-clause-local c =
    let start = c.first_leaf-2.ensures.most in
    let end = c.end_leaf-2.ensures.most in
    let one = c.in_ok-count.ensures.put (λ h. omega arith) []
    (record { list = c.put_gap.new.out.list; most = 2 ^ 64 - 1 })
    (record { same_most = refl; len_is = λ few. refl; front = λ few. c.in_ok-rest.ensures.items }) in
    let both = c.in_ok-put_gap.ensures.put (λ h. omega arith) one.0
    (record { list = c.put_gap.new.out.list; most = 2 ^ 64 - 1 }) one.2 in
    let local = rest_local c.args.holder c.args.cell c.first_leaf-2.ensures.own c.requires
    (c.first_leaf.ensures.value, c.first_leaf-2.ensures.value, c.end_leaf.ensures.value, c.end_leaf-2.ensures.value)
    one.0 both.0 one.1 both.1 both.2 in
    search rules
