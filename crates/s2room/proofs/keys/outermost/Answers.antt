use Rattle.std.proofs.Common.{◌≡◌, ◌-◌, ◌<◌, arith}
use Rattle.s2cell.specs.Cell.{IsCell, first_leaf, parent_of}
use Rattle.s2room.proofs.Holders.{least_level, own_parent}
use Rattle.s2room.proofs.keys.outermost.Goals as goal

pub loop-level-init : goal.loop-level-init
loop-level-init c =
    let cu : IsCell c.args.cell = (_, _, c.id.ensures.cell) in
    let v = c.level-level.ensures.value in
    record { within = omega arith; start = λ h. rw (v, own_parent c.args.cell cu) h }

pub returns-else-from-first_leaf-clause-least : goal.returns-else-from-first_leaf-clause-least
returns-else-from-first_leaf-clause-least c =
    let cu : IsCell c.args.cell = (_, _, c.id.ensures.cell) in
    let f : c.first_leaf.result ≡ first_leaf (parent_of c.args.cell (c.loop-level.level - 1)) =
    rw c.parent.ensures.value at c.first_leaf.ensures.value in
    let late : first_leaf (parent_of c.args.cell (c.loop-level.level - 1)) < c.args.from =
    omega (arith, f, c.if-from-first_leaf.false) in
    least_level c.args.cell c.args.from c.loop-level.level cu c.loop-level.invariant.within (λ _. late)
