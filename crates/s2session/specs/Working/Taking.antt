-- What is said of taking the parts of a session file, one after the other.
use Rattle.std.specs.Prelude.{ℕ, List, MatchResult}
use Rattle.std.specs.declared.result.Result.{Result}
use Rattle.s2shelf.specs.OpenedFile.{Claim}
use Rattle.s2session.specs.Working.SessionParts.{BeginsNone}
use Rattle.s2session.specs.Reading.{WasLeft}
use Rattle.s2session.specs.Working.Source.{Passes}
use Rattle.s2session.specs.declared.fault.ReadFault.{ReadFault}
use Rattle.s2session.specs.declared.fault.ReadFault.TheVariants.{Form, Device, Memory}

-- `Form` is answered only if `P` holds; a read may fail and memory may run out at any time
abbrev pub Refuses : ReadFault → Type 0 → Type 0
Refuses Form P = P
Refuses Device P = Unit {0}
Refuses Memory P = Unit {0}

-- the text of `value`, for which `Ok` holds, was taken from the front of the bytes that were left
pub record Takes {A : Type 0} (text : A → List ℕ) (Ok : A → Type 0) (old : Claim → List ℕ → Type 0) (value : A)
    (new : Claim → List ℕ → Type 0) : Type 0 where
  pub is : Passes old new (text value)
  pub ok : Ok value

-- the bytes that were left do not begin with the text of any value for which `Ok` holds, if the fault is `Form`
abbrev pub Lacks : {A : Type 0} → (A → List ℕ) → (A → Type 0) → ReadFault → (Claim → List ℕ → Type 0) →
    (Claim → List ℕ → Type 0) → Type 0
Lacks text Ok fault old new = WasLeft old new (λ bytes. Refuses fault (BeginsNone text Ok bytes))

-- the answer has the value that was taken, or there is none; `old` and `new` say what may be left before and after
abbrev pub Reads : {T A : Type 0} → (A → List ℕ) → (A → Type 0) → (T → A) → (Claim → List ℕ → Type 0) →
    (Claim → List ℕ → Type 0) → Result T ReadFault → Type 0
Reads text Ok view old new answer =
    MatchResult answer (λ t. Takes text Ok old (view t) new) (λ fault. Lacks text Ok fault old new)
