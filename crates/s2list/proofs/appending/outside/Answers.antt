use Rattle.std.proofs.Common.{◌≡◌, ◌-◌, arith, refl, sym, ◌∙◌, get_or, length, take}
use Rattle.std.proofs.lemmas.Bool.{false≢true}
use Rattle.std.proofs.lemmas.List.{get_or-take, length-take-le, take-take}
use Rattle.s2cell.specs.Cell.{IsCell}
use Rattle.s2cell.proofs.Leaves.{inside_from_within, within_from_inside}
use Rattle.s2list.proofs.Packing.{front_at, reads}
use Rattle.s2list.proofs.Placing.{leaving_step, leaving_done}
use Rattle.s2list.proofs.appending.outside.Goals as goal

pub loop-kept-preserved : goal.loop-kept-preserved
loop-kept-preserved g c =
    let ids = g.C.Listed.ids c.args.list.now in
    let n = c.args.n in
    let u = take n ids in
    let len : length u ≡ n = length-take-le n ids c.requires.within in
    let k = c.loop-kept.kept in
    let w = c.loop-kept.invariant.within in
    let x = get_or u (k - 1) 0 in
    let read = front_at ids n (k - 1) (k - 1) _ (omega arith) refl c.id.ensures in
    let own : IsCell x = c.requires.packed.cells (k - 1) 0 (omega arith) in
    let is = rw (read, c.id-id.ensures.value) at c.lies_in.ensures in
    let held = (is c.requires.is_cell own).0 c.if-lies_in.true in
    leaving_step u c.args.cell k x c.requires.packed c.loop-kept.invariant (omega arith) (reads u (k - 1) (omega arith))
    (inside_from_within x c.args.cell (record { low = held.0; high = held.1 }))

pub returns-else-lies_in-clause-after : goal.returns-else-lies_in-clause-after
returns-else-lies_in-clause-after g c =
    let ids = g.C.Listed.ids c.args.list.now in
    let n = c.args.n in
    let u = take n ids in
    let len : length u ≡ n = length-take-le n ids c.requires.within in
    let k = c.loop-kept.kept in
    let w = c.loop-kept.invariant.within in
    let x = get_or u (k - 1) 0 in
    let read = front_at ids n (k - 1) (k - 1) _ (omega arith) refl c.id.ensures in
    let is = rw (read, c.id-id.ensures.value) at c.lies_in.ensures in
    rw (take-take k n ids (omega arith)) at
    (leaving_done u c.args.cell k c.requires.packed c.requires.starts c.requires.is_cell
    (λ h i. c.requires.not_held (omega arith) (rw (len, get_or-take n ids (n - 1) 0 (omega arith)) at i))
    c.loop-kept.invariant
    (λ h i.
    let own : IsCell x = c.requires.packed.cells (k - 1) 0 (omega arith) in
    let held = within_from_inside x c.args.cell own i in
    false≢true (sym c.if-lies_in.false ∙ (is c.requires.is_cell own).1 (held.low, held.high))))
