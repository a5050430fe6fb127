use Rattle.std.proofs.Common.{arith, ◌+◌, ◌*◌, ◌%◌, ◌^◌, refl}
use Rattle.s2cell.proofs.Quarters.{IsFaceCell, face_cell, placed_face}
use Rattle.s2cell.proofs.placed.PlacedCell.face.Goals as goal
use Rattle.s2cell.proofs.placed.PlacedCell.face.Goals.{After-from}

made : (c : After-from) → IsFaceCell c.args.face ((2 * c.from.result + 1) * 2 ^ 60 % 2 ^ 64)
made c = face_cell c.args.face _ c.requires (omega arith)

pub returns-clause-placed : goal.returns-clause-placed
returns-clause-placed c = placed_face _ (made c) refl

pub returns-clause-level : goal.returns-clause-level
returns-clause-level c = (made c).level

pub returns-clause-face : goal.returns-clause-face
returns-clause-face c = (made c).face
