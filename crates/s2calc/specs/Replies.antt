-- The answer to a line.
use Rattle.std.specs.Prelude.{◌≡◌, ℕ, ◌-◌, ◌^◌, Bool, false, true, min, List, [], ◌∷◌, ◌++◌}
use Rattle.std.specs.Prelude.{codes, flat_map, count_by}
use Rattle.s2calc.specs.declared.refusal.Refusal.{Refusal}
use Rattle.s2calc.specs.Refusals.{name_of}
use Rattle.s2calc.specs.declared.engine.Tally.{Tally}

-- no answer, an answer, or a refusal
pub data Reply : Type 0 where
  Silent : Reply
  Says : (text : List ℕ) → Reply
  Refuses : (refusal : Refusal) → Reply

-- the bytes that are written for a reply
abbrev pub text_of : Reply → List ℕ
text_of Silent = []
text_of (Says text) = text
text_of (Refuses refusal) = codes "error " ++ name_of refusal ++ 10 ∷ []

-- the bytes that are written for replies, one after another
abbrev pub texts : List Reply → List ℕ
texts replies = flat_map text_of replies

-- whether anything is answered
abbrev pub is_answer : Reply → Bool
is_answer Silent = false
is_answer (Says text) = true
is_answer (Refuses refusal) = true

-- whether the reply is a refusal
abbrev pub is_refusal : Reply → Bool
is_refusal Silent = false
is_refusal (Says text) = false
is_refusal (Refuses refusal) = true

-- no reply is a refusal
abbrev pub NoneRefused : List Reply → Type 0
NoneRefused replies = count_by is_refusal replies ≡ 0

-- how many lines were answered and how many were refused; each count stops at the greatest u64
abbrev pub tally_of : List Reply → Tally
tally_of replies = record {
  commands = min (count_by is_answer replies) (2 ^ 64 - 1);
  refused = min (count_by is_refusal replies) (2 ^ 64 - 1);
}
