use Rattle.std.proofs.Common.{◌∙◌, ◌∷◌}
use Rattle.s2calc.specs.CommandLine.{words_of_choices}
use Rattle.s2calc.specs.Working.CommandLine.{run_app}
use Rattle.s2calc.proofs.WordWalks.{rows_are, simple, taken}
use Rattle.s2calc.proofs.WordsAlone.{none_found, rows_found}
use Rattle.s2calc.proofs.plain_line.plain_run.Goals as goal

pub returns-in-Some-clause-run : goal.returns-in-Some-clause-run
returns-in-Some-clause-run c = λ name choices are words. c.run_job.ensures.run choices are (record {
  rows = rows_found run_app _ (name ∷ words_of_choices choices) _ c.in_ok-command.ensures words
      (taken choices name are) _ _
      simple c.in_ok-matches.ensures c.in-Some.is ∙ rows_are choices name are;
})

pub returns-in-None-clause-run : goal.returns-in-None-clause-run
returns-in-None-clause-run c = λ name choices are words. none_found run_app _ (name ∷ words_of_choices choices) _
    c.in_ok-command.ensures words (taken choices name are) _ c.in_ok-matches.ensures c.in-None.is
