use Rattle.std.proofs.Common.{arith, refl}
use Rattle.s2cell.specs.Cell.{IsCell}
use Rattle.s2cell.proofs.Descendants.{descendant_fits, descendant_bits, IsCell-descendant_of}
use Rattle.s2cell.proofs.cell.CellId.descendant.Goals as goal

pub overflow_mul-result : goal.overflow_mul-result
overflow_mul-result c =
    let i : IsCell c.args.self = rw (← c.self.view_is) c.self.invariant in
    let f = (descendant_fits c.args.level c.args.i
    _ c.leaf_count.result i c.requires.own c.requires.deepest c.requires.place c.leaf_count.ensures.value refl).twice in
    omega arith

pub overflow_add-result : goal.overflow_add-result
overflow_add-result c =
    let i : IsCell c.args.self = rw (← c.self.view_is) c.self.invariant in
    let f = (descendant_fits c.args.level c.args.i
    _ c.leaf_count.result i c.requires.own c.requires.deepest c.requires.place c.leaf_count.ensures.value refl).twice in
    omega arith

pub overflow_mul-result-2 : goal.overflow_mul-result-2
overflow_mul-result-2 c =
    let i : IsCell c.args.self = rw (← c.self.view_is) c.self.invariant in
    let f = (descendant_fits c.args.level c.args.i _
    c.leaf_count.result i c.requires.own c.requires.deepest c.requires.place c.leaf_count.ensures.value refl).product in
    omega arith

pub overflow_add-result-2 : goal.overflow_add-result-2
overflow_add-result-2 c =
    let i : IsCell c.args.self = rw (← c.self.view_is) c.self.invariant in
    let f = (descendant_fits c.args.level c.args.i
    _ c.leaf_count.result i c.requires.own c.requires.deepest c.requires.place c.leaf_count.ensures.value refl).sum in
    let e = c.self.view_is in
    omega arith

pub invariant_of-result : goal.invariant_of-result
invariant_of-result c =
    let i : IsCell c.args.self = rw (← c.self.view_is) c.self.invariant in
    IsCell-descendant_of c.args.self c.args.level c.args.i _ i c.requires.own c.requires.deepest c.requires.place
    (rw c.self.view_is (descendant_bits c.args.level c.args.i
    _ c.leaf_count.result i c.requires.own c.requires.deepest c.requires.place c.leaf_count.ensures.value refl))

pub returns-clause-value : goal.returns-clause-value
returns-clause-value c =
    let i : IsCell c.args.self = rw (← c.self.view_is) c.self.invariant in
    rw c.self.view_is (descendant_bits c.args.level
    c.args.i _ c.leaf_count.result i c.requires.own c.requires.deepest c.requires.place c.leaf_count.ensures.value refl)
