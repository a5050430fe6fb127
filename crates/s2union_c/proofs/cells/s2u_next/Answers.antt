use Rattle.std.proofs.Common.{ℕ, ◌*◌, ◌^◌, ap, arith}
use Rattle.s2cell.specs.Neighbours.{IsNext, IsLast}
use Rattle.s2cell.proofs.CellLemmas.{own_place}
use Rattle.s2union_c.proofs.cells.s2u_next.Goals as goal

-- the last cell of a level has no next
none_after_last : (a b : ℕ) → IsNext a b → IsLast a → ⊥
none_after_last a b next last =
    let own = (own_place b next.cell).place in
    let size = ap (λ l. 6 * 4 ^ l) next.level in
    let place = next.place in
    omega arith

pub returns-in-Some-next-clause-none : goal.returns-in-Some-next-clause-none
returns-in-Some-next-clause-none c last =
    absurd (none_after_last c.in-Some.cell c.in-Some-next.next c.in-Some-next.ensures
    (rw c.in-Some.ensures.1 (last c.in-Some.ensures.0)))
