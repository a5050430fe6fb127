use Rattle.std.proofs.Common.{[], ◌∷◌, codes, ap, Some, rules}
use Rattle.s2script.specs.declared.misfit.Wanted.TheVariants.{Cell as WantsCell}
use Rattle.s2script.specs.declared.command.Question.TheVariants.{Cell}
use Rattle.s2script.specs.declared.command.Command.TheVariants.{Ask}
use Rattle.s2script.specs.Forms.{◌and_then◌, ◌gives◌, value_or, at_end, one_cell}
use Rattle.s2script.specs.Table.{combination_of, command_of, covering_of, fact_of, file_or_move_of, question_of}
use Rattle.s2script.specs.Line.{line_of, reading_of, parsed_of}
use Rattle.s2script.specs.Named.{cell_named, token_cell, debug_cell, is_cell}
use Rattle.s2script.proofs.KnownWords.{token_0C00, token_1, token_c, token_2}
use Rattle.s2script.proofs.worked.examples.Goals as goal

pub returns-clause-token : goal.returns-clause-token
returns-clause-token c = token_0C00

pub returns-clause-face_6 : goal.returns-clause-face_6
returns-clause-face_6 c = token_c

pub returns-clause-odd_place : goal.returns-clause-odd_place
returns-clause-odd_place c = token_2

pub returns-clause-carriage_return : goal.returns-clause-carriage_return
unfolding line_of reading_of command_of combination_of covering_of file_or_move_of question_of fact_of one_cell
returns-clause-carriage_return c =
    ap (λ o. parsed_of (value_or o (codes "1") WantsCell [] and_then (λ (cell, ws). at_end ws cell)
    gives (λ cell. Cell cell) gives (λ question. Ask question) gives λ command. Some command)) token_1

pub returns-clause-too_many_words : goal.returns-clause-too_many_words
unfolding line_of reading_of command_of combination_of covering_of file_or_move_of question_of fact_of one_cell
returns-clause-too_many_words c =
    ap (λ o. parsed_of (value_or o (codes "1") WantsCell (codes "y" ∷ [])
    and_then (λ (cell, ws). at_end ws cell) gives (λ cell. Cell cell) gives (λ question. Ask question)
    gives λ command. Some command)) token_1

pub returns-clause-debug_text : goal.returns-clause-debug_text
unfolding cell_named token_cell debug_cell is_cell
returns-clause-debug_text c = search rules

pub returns-clause-no_digit : goal.returns-clause-no_digit
unfolding cell_named token_cell debug_cell is_cell
returns-clause-no_digit c = search rules

pub returns-clause-too_long : goal.returns-clause-too_long
unfolding cell_named token_cell debug_cell is_cell
returns-clause-too_long c = search rules

pub returns-clause-face_6_text : goal.returns-clause-face_6_text
unfolding cell_named token_cell debug_cell is_cell
returns-clause-face_6_text c = search rules

pub returns-clause-comment : goal.returns-clause-comment
unfolding line_of reading_of
returns-clause-comment c = search rules

pub returns-clause-no_comment : goal.returns-clause-no_comment
unfolding line_of reading_of command_of combination_of covering_of file_or_move_of question_of fact_of
returns-clause-no_comment c = search rules

pub returns-clause-missing_word : goal.returns-clause-missing_word
unfolding line_of reading_of command_of combination_of covering_of file_or_move_of question_of fact_of one_cell
returns-clause-missing_word c = search rules

pub returns-clause-left_to_right : goal.returns-clause-left_to_right
unfolding line_of reading_of command_of combination_of covering_of file_or_move_of question_of fact_of one_cell
    cell_named token_cell debug_cell is_cell
returns-clause-left_to_right c = search rules
