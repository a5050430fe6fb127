use Rattle.std.proofs.Common.{◌+◌, ◌*◌, ◌^◌, arith, refl, sym, ◌∙◌}
use Rattle.s2cell.specs.Curve.{IsPlaceOf}
use Rattle.s2cell.proofs.Squares.{IsLeafNumbered, leaf_numbered, place_of_leaf, one_leaf}
use Rattle.s2cell.proofs.cell.CellId.from_face_ij.Goals as goal
use Rattle.s2cell.proofs.cell.CellId.from_face_ij.Goals.{After-leaf_at}

made : (c : After-leaf_at) → IsLeafNumbered (4 ^ 30 * c.from.result + c.leaf_at.result)
    (2 * (4 ^ 30 * c.from.result + c.leaf_at.result) + 1)
made c = leaf_numbered (4 ^ 30 * c.from.result + c.leaf_at.result) _ (omega arith) refl

there : (c : After-leaf_at) → IsPlaceOf (4 ^ 30 * c.from.result + c.leaf_at.result) c.args.face c.args.i c.args.j
there c = rw c.from.ensures (place_of_leaf c.args.face c.leaf_at.result c.args.i c.args.j c.leaf_at.ensures.place)

pub invariant_of-result : goal.invariant_of-result
invariant_of-result c = (made c).cell

pub returns-clause-leaf : goal.returns-clause-leaf
returns-clause-leaf c = (made c).level

pub returns-clause-place : goal.returns-clause-place
returns-clause-place c = rw (made c).first (there c)

pub returns-clause-only : goal.returns-clause-only
returns-clause-only c n other = one_leaf n _ c.args.face c.args.i c.args.j other (there c) ∙ sym (made c).first
