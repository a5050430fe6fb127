use Rattle.std.proofs.Common.{◌∙◌, [], ◌∷◌, ap, codes}
use Rattle.clap.specs.Walk.{first_of}
use Rattle.clap.specs.Words.{found_of}
use Rattle.clap.proofs.WalkLemmas.{first_value-rows}
use Rattle.s2calc.specs.Working.CommandLine.{check_app}
use Rattle.s2calc.proofs.WordsAlone.{check_simple, file_folder, file_taken, file_word, none_found, rows_found}
use Rattle.s2calc.proofs.plain_line.plain_check.Goals as goal

pub returns-in-Some-clause-check : goal.returns-in-Some-clause-check
returns-in-Some-clause-check c = λ name file plain words.
    let rows = rows_found check_app _ (name ∷ file ∷ []) _ c.in_ok-command.ensures words
    (file_taken name file plain) _ _
    check_simple c.in_ok-matches.ensures c.in-Some.is in
    c.check_job.ensures.check (codes ".") file
    (first_value-rows (found_of c.in-Some.matches) (codes "dir") ∙ ap (first_of (codes "dir")) rows
    ∙ file_folder name file plain)
    (first_value-rows (found_of c.in-Some.matches) (codes "FILE") ∙ ap (first_of (codes "FILE")) rows
    ∙ file_word name file plain)

pub returns-in-None-clause-check : goal.returns-in-None-clause-check
returns-in-None-clause-check c = λ name file plain words. none_found check_app _ (name ∷ file ∷ []) _
    c.in_ok-command.ensures words (file_taken name file plain) _ c.in_ok-matches.ensures c.in-None.is
