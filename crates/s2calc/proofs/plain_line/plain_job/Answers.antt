use Rattle.std.proofs.Common.{codes}
use Rattle.s2calc.proofs.WordsAlone.{rest_words}
use Rattle.s2calc.proofs.plain_line.plain_job.Goals as goal

pub returns-in-Some-2-clause-cell : goal.returns-in-Some-2-clause-cell
returns-in-Some-2-clause-cell c = λ program word plain words.
    c.plain_cell.ensures.cell (codes "cell") word plain (rest_words c.args.words.now program _ words)

pub returns-in-Some-3-clause-check : goal.returns-in-Some-3-clause-check
returns-in-Some-3-clause-check c = λ program file plain words.
    c.plain_check.ensures.check (codes "check") file plain (rest_words c.args.words.now program _ words)
