use Rattle.std.proofs.Common.{◌≡◌, ◌≤◌, ◌+◌, ◌*◌, ◌-◌, ◌/◌, arith, refl}
use Rattle.s2cell.specs.Cell.{IsCell, child_of}
use Rattle.s2cell.proofs.CellLemmas.{cell_leaves}
use Rattle.s2cell.proofs.Calls.{fits_u64, child_at, IsCell-child_of}
use Rattle.std.proofs.Math.Nat.{mul-le-mul_right}
use Rattle.s2cell.proofs.cell.CellId.child.Goals as goal

pub overflow_mul-result-2 : goal.overflow_mul-result-2
overflow_mul-result-2 c =
    let i : IsCell c.args.self = rw (← c.self.view_is) c.self.invariant in
    let l = cell_leaves c.args.self i in
    let p : (2 * c.args.p + 1) * (c.leaf_count-size.result / 4) ≤ 7 * (c.leaf_count-size.result / 4) =
    mul-le-mul_right (c.leaf_count-size.result / 4) (let q = c.requires.place in omega arith) in
    let w = l.within in
    let s = c.leaf_count-size.ensures.value in
    omega arith

pub overflow_add-result-2 : goal.overflow_add-result-2
overflow_add-result-2 c =
    let i : IsCell c.args.self = rw (← c.self.view_is) c.self.invariant in
    let e : c.self.inside.id - c.leaf_count-size.result + (2 * c.args.p + 1) * (c.leaf_count-size.result / 4)
    ≡ child_of c.args.self c.args.p = rw c.self.view_is
    (child_at c.args.p c.leaf_count-size.result i c.requires.inner c.requires.place c.leaf_count-size.ensures.value) in
    let f = fits_u64 (child_of c.args.self c.args.p)
    (IsCell-child_of c.args.self c.args.p _ i c.requires.inner c.requires.place refl) in
    omega arith

pub invariant_of-result : goal.invariant_of-result
invariant_of-result c =
    let i : IsCell c.args.self = rw (← c.self.view_is) c.self.invariant in
    IsCell-child_of c.args.self c.args.p _ i c.requires.inner c.requires.place (rw c.self.view_is
    (child_at c.args.p c.leaf_count-size.result i c.requires.inner c.requires.place c.leaf_count-size.ensures.value))

pub returns : goal.returns
returns c =
    let i : IsCell c.args.self = rw (← c.self.view_is) c.self.invariant in
    rw c.self.view_is
    (child_at c.args.p c.leaf_count-size.result i c.requires.inner c.requires.place c.leaf_count-size.ensures.value)
