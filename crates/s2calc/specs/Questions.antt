-- The answers to questions.
use Rattle.std.specs.Prelude.{◌≡◌, ℕ, ◌<◌, ◌≤◌, ◌⊎◌, Bool, List, length}
use Rattle.s2cell.specs.Cell.{IsCell, level_of, first_leaf, covers}
use Rattle.s2cell.specs.Curve.{IsPlaceOf}
use Rattle.s2cell.specs.Square.{IsSquareOf}
use Rattle.s2cell.specs.declared.TheConstants.{LEAVES}
use Rattle.s2list.specs.Union.{has_leaf, IsWithin, ShareSome}
use Rattle.s2list.specs.Count.{count_below}
use Rattle.s2list.specs.Denorm.{denormalised}
use Rattle.s2edit.specs.History.{History}
use Rattle.s2edit.specs.Leads.{list_at}
use Rattle.s2script.specs.declared.command.Comparison.{Comparison}
use Rattle.s2script.specs.declared.command.Comparison.TheVariants.{Covers, Meets}
use Rattle.s2script.specs.declared.command.Question.{Question}
use Rattle.s2script.specs.declared.command.Question.TheVariants.{Cell, At, Square, Show, Count, Has, Touches, Compares}
use Rattle.s2script.specs.declared.command.Question.TheVariants.{Denorm, History as Sides}
use Rattle.s2calc.specs.declared.refusal.Refusal.TheVariants.{TooMany}
use Rattle.s2calc.specs.declared.limits.TheConstants.{MOST_LISTED}
use Rattle.s2calc.specs.Replies.{Reply, Says, Refuses}
use Rattle.s2calc.specs.Texts.{cell_line, square_line, count_line, history_line, yes_line, no_line, listing}

-- `yes` if P holds, else `no`
abbrev pub AnswersYesIf : Type 0 → Reply → Type 0
AnswersYesIf P reply = (P × (reply ≡ Says yes_line)) ⊎ ((P → ⊥) × (reply ≡ Says no_line))

-- the cells, one a line, unless there are more than `MOST_LISTED`
abbrev pub ListsSome : List ℕ → Reply → Type 0
ListsSome cells reply = ((length cells ≤ MOST_LISTED) × (reply ≡ Says (listing cells)))
    ⊎ ((MOST_LISTED < length cells) × (reply ≡ Refuses TooMany))

-- what the comparison of two sets of leaves asks: whether S covers T, or whether they share a leaf
abbrev pub Relates : Comparison → (ℕ → Bool) → (ℕ → Bool) → Type 0
Relates Covers S T = IsWithin T S
Relates Meets S T = ShareSome S T

-- the answer to a question about a state
abbrev pub Answers : Question → History (List ℕ) → Reply → Type 0
Answers (Cell n) state reply = reply ≡ Says (cell_line n)
Answers (At place) state reply = (n : ℕ) × IsCell n × (level_of n ≡ 30)
    × IsPlaceOf (first_leaf n) place.face place.i place.j × (reply ≡ Says (cell_line n))
Answers (Square n) state reply = IsCell n × ((face : ℕ) × (i : ℕ) × (j : ℕ) × (size : ℕ)
    × IsSquareOf n face i j size × (reply ≡ Says (square_line face i j size)))
Answers (Show r) state reply = reply ≡ Says (listing (list_at state.now r))
Answers (Count r) state reply = reply ≡ Says
    (count_line (length (list_at state.now r)) (count_below (has_leaf (list_at state.now r)) LEAVES))
Answers (Has r n) state reply = AnswersYesIf (IsWithin (covers n) (has_leaf (list_at state.now r))) reply
Answers (Touches r n) state reply = AnswersYesIf (ShareSome (covers n) (has_leaf (list_at state.now r))) reply
Answers (Compares comparison r s) state reply =
    AnswersYesIf (Relates comparison (has_leaf (list_at state.now r)) (has_leaf (list_at state.now s))) reply
Answers (Denorm r least modulus) state reply = ListsSome (denormalised least modulus (list_at state.now r)) reply
Answers Sides state reply = reply ≡ Says (history_line (length state.past) (length state.future))
