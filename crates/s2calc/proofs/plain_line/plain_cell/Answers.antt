use Rattle.std.proofs.Common.{◌∙◌, [], ◌∷◌, ap, codes}
use Rattle.clap.specs.Walk.{first_of}
use Rattle.clap.specs.Words.{found_of}
use Rattle.clap.proofs.WalkLemmas.{first_value-rows}
use Rattle.s2calc.specs.Working.CommandLine.{cell_app}
use Rattle.s2calc.proofs.WordsAlone.{cell_simple, cell_taken, cell_word, none_found, rows_found}
use Rattle.s2calc.proofs.plain_line.plain_cell.Goals as goal

pub returns-in-Some-clause-cell : goal.returns-in-Some-clause-cell
returns-in-Some-clause-cell c = λ name word plain words.
    let rows = rows_found cell_app _ (name ∷ word ∷ []) _ c.in_ok-command.ensures words (cell_taken name word plain) _ _
    cell_simple c.in_ok-matches.ensures c.in-Some.is in
    c.cell_job.ensures.cell word
    (first_value-rows (found_of c.in-Some.matches) (codes "CELL") ∙ ap (first_of (codes "CELL")) rows
    ∙ cell_word name word plain)

pub returns-in-None-clause-cell : goal.returns-in-None-clause-cell
returns-in-None-clause-cell c =
    λ name word plain words. none_found cell_app _ (name ∷ word ∷ []) _ c.in_ok-command.ensures
    words (cell_taken name word plain) _ c.in_ok-matches.ensures c.in-None.is
