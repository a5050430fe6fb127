use Rattle.std.proofs.Common.{rules}
use Rattle.s2calc.proofs.command_line.job.Goals as goal

pub returns-in-Ok-Some-clause-cell : goal.returns-in-Ok-Some-clause-cell
returns-in-Ok-Some-clause-cell c = λ program word plain words.
    let found = c.in-Ok-Some.ensures.cell program word plain (search (rules, words)) in search (rules, found)

pub returns-in-Ok-Some-clause-check : goal.returns-in-Ok-Some-clause-check
returns-in-Ok-Some-clause-check c = λ program file plain words.
    let found = c.in-Ok-Some.ensures.check program file plain (search (rules, words)) in search (rules, found)

pub returns-in-Ok-None-clause-cell : goal.returns-in-Ok-None-clause-cell
returns-in-Ok-None-clause-cell c = λ program word plain words.
    let found = c.in-Ok-None.ensures.cell program word plain (search (rules, words)) in search (rules, found)

pub returns-in-Ok-None-clause-check : goal.returns-in-Ok-None-clause-check
returns-in-Ok-None-clause-check c = λ program file plain words.
    let found = c.in-Ok-None.ensures.check program file plain (search (rules, words)) in search (rules, found)
