use Rattle.std.proofs.Common.{ℕ, ◌+◌, get_or, arith, refl}
use Rattle.s2cell.specs.Cell.{first_leaf}
use Rattle.s2list.specs.Packed.{IsPlace}
use Rattle.s2list.specs.Working.Walk.{LeavesOpen}
use Rattle.s2list.proofs.Checking.{packed_from_local}
use Rattle.s2union.proofs.AskingFew.{more_places, one_place}
use Rattle.s2union.proofs.few.pass_next.Given.{Over}
use Rattle.s2union.proofs.few.pass_next.Goals as goal
use Rattle.s2union.proofs.few.pass_next.Goals.{After-find_counted-place}

place : (g : Over) (c : After-find_counted-place g) →
    IsPlace (g.C.Listed.ids c.args.cells.now) (first_leaf c.look_at-cell.result) c.find_counted-place.result
place g c =
    let p = packed_from_local (g.C.Listed.ids c.args.cells.now) c.requires.local in
    let v = c.first_leaf.ensures.value in
    let f = c.find_counted-place.ensures in
    record { within = f.within; ended = rw v at (f.ended p); next = rw v at (f.next p) }

pub returns-then-decides_at-clause-answer : goal.returns-then-decides_at-clause-answer
returns-then-decides_at-clause-answer g c = (
  c.args.at,
  c.requires.there,
  rw (← c.look_at-cell.ensures.cell) (c.decides_at.ensures.decided c.requires.local
      (place g (goal.at.returns-then-decides_at-clause-answer g c).After-find_counted-place) c.if-decides_at.true),
)

pub returns-then-decides_at-clause-most : goal.returns-then-decides_at-clause-most
returns-then-decides_at-clause-most g c =
    let found = c.find_counted-place.ensures.looks 64 (omega arith) in omega arith

pub returns-then-decides_at-clause-least : goal.returns-then-decides_at-clause-least
returns-then-decides_at-clause-least g c h =
    let some = c.find_counted-place.ensures.some h in
    let least = c.decides_at.ensures.least in
    omega arith

pub returns-else-decides_at-clause-answer : goal.returns-else-decides_at-clause-answer
returns-else-decides_at-clause-answer g c =
    let cells = g.C.Listed.ids c.args.cells.now in
    let P : ℕ → Type 0 = λ k. LeavesOpen c.args.question cells (get_or (g.C.Listed.ids c.args.few.now) k 0) in
    let there = place g (goal.at.returns-else-decides_at-clause-answer g c).After-find_counted-place in
    more_places P c.args.at (c.args.at + 1) c.pass_open.result
    (one_place P c.args.at (rw (← c.look_at-cell.ensures.cell)
    (c.decides_at.ensures.left_open c.requires.local there c.if-decides_at.false)))
    (c.pass_open.ensures.left_open c.args.at refl (rw (← c.look_at-cell.ensures.cell) there))

pub returns-else-decides_at-clause-most : goal.returns-else-decides_at-clause-most
returns-else-decides_at-clause-most g c =
    let found = c.find_counted-place.ensures.looks 64 (omega arith) in
    let from = c.pass_open.ensures.from in
    let in_few = c.pass_open.ensures.within in
    let passed = c.pass_open.ensures.looks in
    omega arith

pub returns-else-decides_at-clause-looks : goal.returns-else-decides_at-clause-looks
returns-else-decides_at-clause-looks g c =
    let found = c.find_counted-place.ensures.looks 64 (omega arith) in
    let from = c.pass_open.ensures.from in
    let passed = c.pass_open.ensures.looks in
    omega arith

pub returns-else-decides_at-clause-least : goal.returns-else-decides_at-clause-least
returns-else-decides_at-clause-least g c h =
    let some = c.find_counted-place.ensures.some h in
    let least = c.decides_at.ensures.least in
    let passed = c.pass_open.ensures.least in
    omega arith
