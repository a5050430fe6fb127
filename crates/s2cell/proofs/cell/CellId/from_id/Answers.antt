use Rattle.std.proofs.Common.{arith, rules, refl}
use Rattle.s2cell.proofs.CellLemmas.{cell_from_test, face_of_cell, trailing_even}
use Rattle.s2cell.proofs.cell.CellId.from_id.Goals as goal

pub invariant_of-result : goal.invariant_of-result
invariant_of-result c = cell_from_test _ (search rules) (search rules) (search rules) (search rules)

pub returns-then-id-lt6 : goal.returns-then-id-lt6
returns-then-id-lt6 c = (cell_from_test _ (search rules) (search rules) (search rules) (search rules), refl)

pub returns-else-zeros-le60 : goal.returns-else-zeros-le60
returns-else-zeros-le60 c = λ h. let t = trailing_even _ h in let f = face_of_cell _ h in grind arith
