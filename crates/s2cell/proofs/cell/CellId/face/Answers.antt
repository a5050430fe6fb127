use Rattle.s2cell.proofs.Calls.{face_bits}
use Rattle.s2cell.proofs.CellLemmas.{face_of_cell}
use Rattle.s2cell.proofs.cell.CellId.face.Goals as goal

pub returns-clause-value : goal.returns-clause-value
returns-clause-value c = rw (← c.self.view_is) (face_bits c.self.invariant)

pub returns-clause-most : goal.returns-clause-most
returns-clause-most c = face_of_cell _ c.self.invariant
