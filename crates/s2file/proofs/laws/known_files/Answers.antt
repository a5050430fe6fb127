use Rattle.std.proofs.Common.{[], refl, lit≤}
use Rattle.s2cell.specs.Cell.{covers}
use Rattle.s2list.specs.Numbers.{number_text}
use Rattle.s2file.proofs.Known.{file_from_text, face, doubled, four_children, no_cells, face_cells, doubled_cells}
use Rattle.s2file.proofs.Known.{four_cells, turned, siblings_leaves}
use Rattle.s2file.proofs.laws.known_files.Goals as goal

pub returns-clause-no_cell : goal.returns-clause-no_cell
unfolding number_text
returns-clause-no_cell c = file_from_text [] _ _ no_cells (lit≤ tt) refl (λ x. refl)

pub returns-clause-face : goal.returns-clause-face
unfolding number_text
returns-clause-face c = file_from_text face _ _ face_cells (lit≤ tt) refl (λ x. refl)

pub returns-clause-any_order : goal.returns-clause-any_order
unfolding number_text
returns-clause-any_order c = file_from_text doubled _ _ doubled_cells (lit≤ tt) refl
    (λ x. turned (covers 0x0400_0000_0000_0000 x) (covers 0x0c00_0000_0000_0000 x))

pub returns-clause-siblings : goal.returns-clause-siblings
unfolding number_text
returns-clause-siblings c = file_from_text four_children _ _ four_cells (lit≤ tt) refl siblings_leaves

pub returns-clause-no_cell_written : goal.returns-clause-no_cell_written
unfolding number_text
returns-clause-no_cell_written c = refl

pub returns-clause-face_written : goal.returns-clause-face_written
unfolding number_text
returns-clause-face_written c = refl

pub returns-clause-two_written : goal.returns-clause-two_written
unfolding number_text
returns-clause-two_written c = refl
