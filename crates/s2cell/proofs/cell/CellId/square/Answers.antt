use Rattle.std.proofs.Common.{◌%◌, ◌*◌, ◌-◌, ◌^◌, bit_and}
use Rattle.s2cell.specs.Square.{IsSquareOf}
use Rattle.s2cell.proofs.Squares.{square_computed, square_of_leaf, one_place, next_beside}
use Rattle.s2cell.proofs.cell.CellId.square.Goals as goal
use Rattle.s2cell.proofs.cell.CellId.square.Goals.{After-wrapping_neg-2}

made : (c : After-wrapping_neg-2) → IsSquareOf c.args.self c.face-face.result
    (bit_and c.place_at-i.result.0 c.wrapping_neg.result) (bit_and c.place_at-i.result.1 c.wrapping_neg-2.result)
    (1 * 2 ^ (30 - c.level.result) % 2 ^ 32)
made c =
    square_computed c.face-face.result c.first_leaf.result
    c.level.result c.place_at-i.result.0 c.place_at-i.result.1 c.wrapping_neg.result c.wrapping_neg-2.result
    c.first_leaf.ensures.own c.face-face.ensures.value c.first_leaf.ensures.value c.level.ensures.value
    c.level.ensures.most
    c.place_at-i.ensures.place c.place_at-i.ensures.i c.place_at-i.ensures.j c.wrapping_neg.type_inv
    c.wrapping_neg.ensures c.wrapping_neg-2.type_inv c.wrapping_neg-2.ensures

pub returns-clause-square : goal.returns-clause-square
returns-clause-square c = made c

pub returns-clause-leaf : goal.returns-clause-leaf
returns-clause-leaf c e = square_of_leaf c.first_leaf.ensures.own (made c) e

pub returns-clause-only : goal.returns-clause-only
returns-clause-only c e face i j other = one_place _ _ _ _ _ _ _ other
    (square_of_leaf c.first_leaf.ensures.own (made c) e).0

pub returns-clause-next : goal.returns-clause-next
returns-clause-next c e i j other = next_beside _ _ _ _ _ _ (square_of_leaf c.first_leaf.ensures.own (made c) e).0 other
