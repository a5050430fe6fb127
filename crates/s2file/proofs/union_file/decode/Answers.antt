use Rattle.std.proofs.Common.{rules, Ok}
use Rattle.s2file.proofs.Files.{exact_answer, file_from_cells}
use Rattle.s2file.proofs.union_file.decode.Goals as goal

pub returns-in_err-numbers-clause-exact : goal.returns-in_err-numbers-clause-exact
returns-in_err-numbers-clause-exact c = exact_answer c.from_residual.result (search rules)

pub returns-in_err-cells-clause-exact : goal.returns-in_err-cells-clause-exact
returns-in_err-cells-clause-exact c = exact_answer c.from_residual-in_err-cells.result (search rules)

pub returns-clause-answer : goal.returns-clause-answer
returns-clause-answer c =
    let read = c.in_ok-cells.ensures in
    let numbers = c.in_ok-numbers.ensures in
    file_from_cells c.in_ok-cells.cells.items c.normalise.result.cells numbers.0 numbers.1 read.0 read.1
    c.normalise.ensures.leaves

pub returns-clause-exact : goal.returns-clause-exact
returns-clause-exact c = exact_answer (Ok c.normalise.result) (returns-clause-answer c)
