use Rattle.s2union_c.proofs.Wrong.{not_all_cells}
use Rattle.s2union_c.proofs.files.s2u_file_check.Goals as goal

pub returns-in-Some-clause-answer : goal.returns-in-Some-clause-answer
returns-in-Some-clause-answer c f = let e = c.in-Ok.ensures.1 in
    absurd (not_all_cells _ _ f.cells (rw e at c.in-Some.ensures))

pub returns-in-None-clause-wrong : goal.returns-in-None-clause-wrong
returns-in-None-clause-wrong c framed none = let e = c.in-Ok.ensures.1 in absurd (none (rw e at c.in-None.ensures))
