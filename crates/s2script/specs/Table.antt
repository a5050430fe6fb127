-- The table of commands: each name, the form of the words after it, and what they ask for.
use Rattle.std.specs.Prelude.{ℕ, List, if◌then◌else◌, codes, Result, Err}
use Rattle.std.specs.Str.{bytes_eq}
use Rattle.s2script.specs.declared.misfit.Wanted.TheVariants.{CommandName}
use Rattle.s2script.specs.declared.misfit.Misfit.{Misfit}
use Rattle.s2script.specs.declared.misfit.Misfit.TheVariants.{Unfit}
use Rattle.s2script.specs.declared.command.Comparison.TheVariants.{Covers, Meets}
use Rattle.s2script.specs.declared.command.Question.{Question}
use Rattle.s2script.specs.declared.command.Question.TheVariants.{Cell, At, Square, Show, Count, Has, Touches, Compares}
use Rattle.s2script.specs.declared.command.Question.TheVariants.{Denorm, History}
use Rattle.s2script.specs.declared.command.RegisterEdit.TheVariants.{Add, Remove, Keep, Clear, Copy}
use Rattle.s2script.specs.declared.command.RegisterEdit.TheVariants.{Union, Intersect, Subtract}
use Rattle.s2script.specs.declared.command.RegisterEdit.TheVariants.{Range, Outer, Inner, OuterOf, InnerOf}
use Rattle.s2script.specs.declared.command.Command.{Command}
use Rattle.s2script.specs.declared.command.Command.TheVariants.{Edit, Load, Save, Dump, Restore, Undo, Redo, Ask}
use Rattle.s2script.specs.Forms.{◌gives◌, at_end, one_cell, one_place, one_register, two_registers, register_and_cell}
use Rattle.s2script.specs.Forms.{register_and_cells, register_and_span, register_and_name, one_name}
use Rattle.s2script.specs.Forms.{register_level_modulus, register_level_rect, registers_level_rect}

-- the questions about a cell, a place or the history, by name
unfoldable pub fact_of : List ℕ → List (List ℕ) → Result Question Misfit
fact_of name ws =
    if bytes_eq name (codes "cell") then (one_cell ws gives λ cell. Cell cell)
    else if bytes_eq name (codes "at") then (one_place ws gives λ place. At place)
    else if bytes_eq name (codes "square") then (one_cell ws gives λ cell. Square cell)
    else if bytes_eq name (codes "history") then at_end ws History
    else Err (Unfit name CommandName)

-- the questions about registers by name, and those of `fact_of`
unfoldable pub question_of : List ℕ → List (List ℕ) → Result Question Misfit
question_of name ws =
    if bytes_eq name (codes "show") then (one_register ws gives λ r. Show r)
    else if bytes_eq name (codes "count") then (one_register ws gives λ r. Count r)
    else if bytes_eq name (codes "has") then (register_and_cell ws gives λ (r, cell). Has r cell)
    else if bytes_eq name (codes "touches") then (register_and_cell ws gives λ (r, cell). Touches r cell)
    else if bytes_eq name (codes "covers") then (two_registers ws gives λ (r, s). Compares Covers r s)
    else if bytes_eq name (codes "meets") then (two_registers ws gives λ (r, s). Compares Meets r s)
    else if bytes_eq name (codes "denorm") then (register_level_modulus ws gives λ (r, least, modulus).
    Denorm r least modulus)
    else fact_of name ws

-- the commands with files and those that move in the history by name, and those of `question_of`
unfoldable pub file_or_move_of : List ℕ → List (List ℕ) → Result Command Misfit
file_or_move_of name ws =
    if bytes_eq name (codes "load") then (register_and_name ws gives λ (r, file). Load r file)
    else if bytes_eq name (codes "save") then (register_and_name ws gives λ (r, file). Save r file)
    else if bytes_eq name (codes "dump") then (one_name ws gives λ file. Dump file)
    else if bytes_eq name (codes "restore") then (one_name ws gives λ file. Restore file)
    else if bytes_eq name (codes "undo") then at_end ws Undo
    else if bytes_eq name (codes "redo") then at_end ws Redo
    else (question_of name ws gives λ question. Ask question)

-- the edits of a register by a covering, by name, and the commands of `file_or_move_of`
unfoldable pub covering_of : List ℕ → List (List ℕ) → Result Command Misfit
covering_of name ws =
    if bytes_eq name (codes "outer") then (register_level_rect ws gives λ (r, level, rect).
    Edit r (Outer level rect))
    else if bytes_eq name (codes "inner") then (register_level_rect ws gives λ (r, level, rect).
    Edit r (Inner level rect))
    else if bytes_eq name (codes "outerof") then (registers_level_rect ws gives λ (r, s, level, rect).
    Edit r (OuterOf s level rect))
    else if bytes_eq name (codes "innerof") then (registers_level_rect ws gives λ (r, s, level, rect).
    Edit r (InnerOf s level rect))
    else file_or_move_of name ws

-- the edits of a register by another one, by name, and the commands of `covering_of`
unfoldable pub combination_of : List ℕ → List (List ℕ) → Result Command Misfit
combination_of name ws =
    if bytes_eq name (codes "copy") then (two_registers ws gives λ (r, s). Edit r (Copy s))
    else if bytes_eq name (codes "union") then (two_registers ws gives λ (r, s). Edit r (Union s))
    else if bytes_eq name (codes "intersect") then (two_registers ws gives λ (r, s). Edit r (Intersect s))
    else if bytes_eq name (codes "subtract") then (two_registers ws gives λ (r, s). Edit r (Subtract s))
    else covering_of name ws

-- what the command with this name asks for, by the words after it: an edit of a register by cells, or another command
unfoldable pub command_of : List ℕ → List (List ℕ) → Result Command Misfit
command_of name ws =
    if bytes_eq name (codes "add") then (register_and_cells ws gives λ (r, cells). Edit r (Add cells))
    else if bytes_eq name (codes "remove") then (register_and_cells ws gives λ (r, cells). Edit r (Remove cells))
    else if bytes_eq name (codes "keep") then (register_and_cells ws gives λ (r, cells). Edit r (Keep cells))
    else if bytes_eq name (codes "clear") then (one_register ws gives λ r. Edit r Clear)
    else if bytes_eq name (codes "range") then (register_and_span ws gives λ (r, span). Edit r (Range span))
    else combination_of name ws
