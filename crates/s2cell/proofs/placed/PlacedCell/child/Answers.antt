use Rattle.std.proofs.Common.{arith, ◌/◌, ap}
use Rattle.s2cell.proofs.Quarters.{placed_orientation, placed_child}
use Rattle.s2cell.proofs.Family.{level_of_child}
use Rattle.s2cell.proofs.placed.PlacedCell.child.Goals as goal

pub place_step-step-requires-clause-shift : goal.place_step-step-requires-clause-shift
place_step-step-requires-clause-shift c =
    let h = placed_orientation c.requires.placed in
    let e = c.from.ensures in
    omega arith

pub returns-clause-level : goal.returns-clause-level
returns-clause-level c = rw c.child.ensures (level_of_child c.args.self.cell c.args.p c.requires.placed.cell
    c.requires.inner c.requires.place)

pub returns-clause-placed : goal.returns-clause-placed
returns-clause-placed c =
    placed_child c.args.p c.child.result c.from.result c.held_by-quadrant.result _
    c.requires.placed c.requires.inner c.requires.place c.child.ensures c.from.ensures c.from-2.ensures
    c.place_step-step.ensures.entry c.held_by-quadrant.ensures (ap (λ z. z / 16) c.next_shift-shift.ensures)
