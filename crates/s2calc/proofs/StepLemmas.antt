-- Lemmas on one line.
use Rattle.std.proofs.Common.{◌≡◌, ℕ, ◌<◌, ◌≤◌, inl, inr, Bool, true, false, cond, ltb, List, length, take, refl, sym}
use Rattle.std.proofs.Common.{Err, ap, ◌∙◌, subst, arith, tests, rules}
use Rattle.std.proofs.lemmas.List.{length-take, take_all}
use Rattle.std.proofs.lemmas.Bool.{cases_lt}
use Rattle.s2calc.specs.World.{World}
use Rattle.s2script.specs.declared.limits.TheConstants.{LONGEST_LINE}
use Rattle.s2script.specs.declared.misfit.Misfit.TheVariants.{LongLine}
use Rattle.s2script.specs.declared.command.Command.{Command}
use Rattle.s2script.specs.declared.command.Command.TheVariants.{Edit, Load, Save, Dump, Restore, Undo, Redo, Ask}
use Rattle.s2script.specs.declared.command.Parsed.{Parsed}
use Rattle.s2script.specs.declared.command.Parsed.TheVariants.{Nothing, Does, Fails}
use Rattle.s2calc.specs.declared.limits.TheConstants.{KEPT}
use Rattle.s2calc.specs.Replies.{Reply}
use Rattle.s2script.specs.Line.{line_of, misfit_of, parsed_of, misfit_in, reading_of, read_within}
use Rattle.s2calc.specs.Step.{Step, StepBy, Acts, uses_file, asks_for_file}

is_above : (n : ℕ) → LONGEST_LINE < n → ltb LONGEST_LINE n ≡ true
is_above n h = search (rules, tests)

first_case : {X : Type 0} (b : Bool) (x y : X) → b ≡ true → cond b x y ≡ x
first_case true x y e = refl
first_case false x y e = cc

reading_of_long : (line : List ℕ) → LONGEST_LINE < length line → reading_of line ≡ Err LongLine
unfolding reading_of
reading_of_long line h = first_case (ltb LONGEST_LINE (length line)) (Err LongLine) (read_within line)
    (is_above (length line) h)

reading_of_short : (line : List ℕ) → length line ≤ KEPT → reading_of (take KEPT line) ≡ reading_of line
reading_of_short line h = ap reading_of (take_all KEPT line h)

cut_long : (line : List ℕ) → LONGEST_LINE < length line → LONGEST_LINE < length (take KEPT line)
cut_long line h = let e = length-take KEPT line in omega arith

-- the first `KEPT` bytes of a line are read as it is
reading_of-kept : (line : List ℕ) → reading_of (take KEPT line) ≡ reading_of line
reading_of-kept line =
    elim (cases_lt LONGEST_LINE (length line)) [
      | inl h ↦ reading_of_long (take KEPT line) (cut_long line h) ∙ sym (reading_of_long line h)
      | inr h ↦ reading_of_short line (omega arith)
    ]

-- so they say what it says
pub line_of-kept : (line : List ℕ) → line_of (take KEPT line) ≡ line_of line
unfolding line_of
line_of-kept line = ap parsed_of (reading_of-kept line)

-- and they do not fit where it does not fit
pub misfit_of-kept : (line : List ℕ) → misfit_of (take KEPT line) ≡ misfit_of line
unfolding misfit_of
misfit_of-kept line = ap misfit_in (reading_of-kept line)

pub Step-kept : (old new : World) (line : List ℕ) (reply : Reply) → Step old (take KEPT line) reply new →
    Step old line reply new
Step-kept old new line reply s = record { by = subst (λ p. StepBy p old reply new) (line_of-kept line) s.by }

act_stays : (command : Command) (old new : World) (reply : Reply) → Acts command old reply new →
    uses_file command ≡ false → new.files ≡ old.files
act_stays (Edit r edit) old new reply a h = a.1
act_stays (Load r name) old new reply a h = absurd cc
act_stays (Save r name) old new reply a h = absurd cc
act_stays (Dump name) old new reply a h = absurd cc
act_stays (Restore name) old new reply a h = absurd cc
act_stays Undo old new reply a h = a.1
act_stays Redo old new reply a h = a.1
act_stays (Ask question) old new reply a h = ap (λ w. w.files) a.1

said_stays : (said : Parsed) (old new : World) (reply : Reply) → StepBy said old reply new →
    asks_for_file said ≡ false → new.files ≡ old.files
said_stays Nothing old new reply a h = ap (λ w. w.files) a.1
said_stays (Fails refusal) old new reply a h = ap (λ w. w.files) a.1
said_stays (Does command) old new reply a h = act_stays command old new reply a h

-- a line that asks for no command with a file changes no file, and finds none
pub files_stay : (old new : World) (line : List ℕ) (reply : Reply) → Step old line reply new →
    asks_for_file (line_of line) ≡ false → new.files ≡ old.files
files_stay old new line reply s h = said_stays (line_of line) old new reply s.by h
