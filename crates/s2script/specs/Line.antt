-- What a line says, and where it does not fit.
use Rattle.std.specs.Prelude.{ℕ, List, [], ◌∷◌, nat_lt, if◌then◌else◌, length, Option, Some, None, Result, Ok, Err}
use Rattle.s2script.specs.declared.command.Command.{Command}
use Rattle.s2script.specs.declared.command.Parsed.{Parsed}
use Rattle.s2script.specs.declared.command.Parsed.TheVariants.{Nothing, Does, Fails}
use Rattle.s2script.specs.declared.limits.TheConstants.{LONGEST_LINE}
use Rattle.s2script.specs.declared.misfit.Misfit.{Misfit}
use Rattle.s2script.specs.declared.misfit.Misfit.TheVariants.{LongLine}
use Rattle.s2script.specs.Words.{words, without_cr, is_comment}
use Rattle.s2script.specs.Forms.{◌gives◌}
use Rattle.s2script.specs.Misfits.{refusal_of}
use Rattle.s2script.specs.Table.{command_of}

-- the command of a line's words, by the first word; none if there are no words
abbrev pub command_in : List (List ℕ) → Result (Option Command) Misfit
command_in [] = Ok None
command_in (name ∷ ws) = command_of name ws gives λ command. Some command

-- the command of a line that is not too long; none for a comment
abbrev pub read_within : List ℕ → Result (Option Command) Misfit
read_within line = if is_comment line then Ok None else command_in (words (without_cr line))

-- the command that a line asks for, if it asks for one, or where the line does not fit
unfoldable pub reading_of : List ℕ → Result (Option Command) Misfit
reading_of line = if nat_lt LONGEST_LINE (length line) then Err LongLine else read_within line

-- what a line says, by its reading
abbrev pub parsed_of : Result (Option Command) Misfit → Parsed
parsed_of (Ok None) = Nothing
parsed_of (Ok (Some command)) = Does command
parsed_of (Err misfit) = Fails (refusal_of misfit)

-- what a line says
unfoldable pub line_of : List ℕ → Parsed
line_of line = parsed_of (reading_of line)

-- where a line does not fit, by its reading
abbrev pub misfit_in : Result (Option Command) Misfit → Option Misfit
misfit_in (Ok command) = None
misfit_in (Err misfit) = Some misfit

-- where a line does not fit: the first word from the left that is not what the grammar wants in its place; or what is
-- wanted where a word is missing; or that it is too long
unfoldable pub misfit_of : List ℕ → Option Misfit
misfit_of line = misfit_in (reading_of line)
