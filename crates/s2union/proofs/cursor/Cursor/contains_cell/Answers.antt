use Rattle.std.proofs.Common.{◌↔◌, ℕ, IsTrue, List, subst}
use Rattle.s2cell.specs.Cell.{covers}
use Rattle.s2list.specs.Union.{IsWithin, has_leaf}
use Rattle.s2list.proofs.Checking.{packed_from_local}
use Rattle.s2union.proofs.cursor.Cursor.contains_cell.Goals as goal

pub find_near-at-requires : goal.find_near-at-requires
find_near-at-requires c = packed_from_local c.self.inside.cells.now c.self.invariant

pub returns-clause-answer : goal.returns-clause-answer
returns-clause-answer c =
    let v = c.first_leaf.ensures.value in
    let f = c.find_near-at.ensures in
    subst (λ (u : List ℕ). IsTrue c.contains_cell_at.result ↔ IsWithin (covers c.args.cell) (has_leaf u)) c.self.view_is
    (c.contains_cell_at.ensures c.self.invariant
    (record { within = f.within; ended = rw v at f.ended; next = rw v at f.next }))
