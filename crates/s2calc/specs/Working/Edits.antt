-- What only private contracts need, beside Edits.antt, which has what public contracts need.
use Rattle.std.specs.Prelude.{◌≡◌, ℕ, ◌⊎◌, Bool}
use Rattle.std.specs.Prelude.{Result, Ok, Err, MatchResult}
use Rattle.s2list.specs.Union.{IsNormalForm}
use Rattle.s2list.specs.Union as U
use Rattle.s2edit.specs.declared.editor.EditFault.{EditFault}
use Rattle.s2edit.specs.declared.editor.EditFault.TheVariants.{TooMany as AboveLimit, Memory as NoRoom}
use Rattle.s2calc.specs.declared.answer.Answer.{Answer}
use Rattle.s2calc.specs.declared.answer.Answer.TheVariants.{Moved, Refused}
use Rattle.s2calc.specs.declared.refusal.Refusal.{Refusal}
use Rattle.s2calc.specs.declared.refusal.Refusal.TheVariants.{TooMany, Memory}
use Rattle.s2calc.specs.Edits.{IsTooLong}

-- why the normal form of S is not made: it has too many cells, or there is no memory
abbrev pub Fails : (ℕ → Bool) → ℕ → Refusal → Type 0
Fails S limit refusal = ((refusal ≡ TooMany) × IsTooLong S limit) ⊎ (refusal ≡ Memory)

-- the normal form of S, or why it is not made
abbrev pub Makes : (ℕ → Bool) → ℕ → Result U.Union Refusal → Type 0
Makes S limit result = MatchResult result (λ u. IsNormalForm S u.cells) (Fails S limit)

-- the answer to an edit that the editor carried out, or refused
abbrev pub answer_of : Result (ℕ × ℕ) EditFault → Answer
answer_of (Ok n) = Moved n.0 n.1
answer_of (Err AboveLimit) = Refused TooMany
answer_of (Err NoRoom) = Refused Memory
