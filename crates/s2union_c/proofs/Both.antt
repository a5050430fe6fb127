-- What a call answers that makes two lists.
use Rattle.std.proofs.Common.{◌≡◌, ◌≢◌, ℕ, ℤ, ◌<◌, ◌≤◌, inl, inr, refl, List, length, ⊎_elim}
use Rattle.std.proofs.lemmas.Bool.{cases_lt}
use Rattle.s2list.specs.Denorm.{denormalised}
use Rattle.s2cover.specs.declared.TheConstants.{MOST_COVERING}
use Rattle.s2union_c.specs.Polygons.{AnswersBoth, CutsOne}
use Rattle.s2union_c.specs.Results.{Made, Refused}
use Rattle.s2union_c.specs.Status.{made, too_many}

-- the first is made
pub both_passed : (P Q : ℤ → Type 0) (s t : ℤ) → s ≡ made → P s → Q t → AnswersBoth P Q t
both_passed P Q s t is p q =
    record { first = s; second = t; of_first = p; of_second = q; refused = λ n. absurd (n is); passed = λ n. refl }

-- the first is refused
pub both_refused : (P Q : ℤ → Type 0) (s t : ℤ) → s ≢ made → P s → Q t → AnswersBoth P Q s
both_refused P Q s t isnt p q =
    record { first = s; second = t; of_first = p; of_second = q; refused = λ n. refl; passed = λ n. absurd (isnt n) }

-- a union was cut and written, or has too many cells
pub cuts_one : (least : ℕ) (P : List ℕ → Type 0) (u : List ℕ) (status : ℤ) (old new : List ℕ) (len : ℕ) → P u
    → (length (denormalised least 1 u) ≤ MOST_COVERING → Made status (denormalised least 1 u) old new len)
    → (MOST_COVERING < length (denormalised least 1 u) → Refused status too_many old new len)
    → CutsOne least P status old new len
cuts_one least P u status old new len is fits many = ⊎_elim
    (λ (h : MOST_COVERING < length (denormalised least 1 u)). inr (u, is, h, many h))
    (λ (h : length (denormalised least 1 u) ≤ MOST_COVERING). inl (u, is, fits h))
    (cases_lt MOST_COVERING (length (denormalised least 1 u)))
