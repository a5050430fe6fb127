use Rattle.std.proofs.Common.{◌≡◌, ◌*◌, ◌-◌, ◌%◌, ◌^◌, arith, rules, refl, bit_or, bit_and}
use Rattle.s2cell.specs.Cell.{IsCell, parent_of}
use Rattle.s2cell.proofs.Calls.{shallow, parent_at, IsCell-parent_of}
use Rattle.s2cell.proofs.Family.{parent_level}
use Rattle.s2cell.proofs.cell.CellId.parent.Goals as goal

pub overflow_sub-lowest : goal.overflow_sub-lowest
overflow_sub-lowest c =
    let s = shallow c.args.self (rw (← c.self.view_is) c.self.invariant) in
    omega arith

pub invariant_of-result : goal.invariant_of-result
invariant_of-result c =
    let i : IsCell c.args.self = rw (← c.self.view_is) c.self.invariant in
    IsCell-parent_of c.args.self c.args.level _ i c.requires
    (rw c.self.view_is (parent_at c.args.level _ _ i c.requires refl (search rules) c.wrapping_neg.ensures))

pub returns-clause-value : goal.returns-clause-value
returns-clause-value c =
    let i : IsCell c.args.self = rw (← c.self.view_is) c.self.invariant in
    rw c.self.view_is (parent_at c.args.level _ _ i c.requires refl (search rules) c.wrapping_neg.ensures)

pub returns-clause-level : goal.returns-clause-level
returns-clause-level c =
    let i : IsCell c.args.self = rw (← c.self.view_is) c.self.invariant in
    let e : bit_or (bit_and c.self.inside.id c.wrapping_neg.result) (1 * 2 ^ (2 * (30 - c.args.level)) % 2 ^ 64)
    ≡ parent_of c.args.self c.args.level =
    rw c.self.view_is (parent_at c.args.level _ _ i c.requires refl (search rules) c.wrapping_neg.ensures) in
    rw e (parent_level c.args.self c.args.level i c.requires)
