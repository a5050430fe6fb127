-- What the reading of a session answers.
use Rattle.std.specs.Prelude.{ℕ, List}
use Rattle.s2shelf.specs.OpenedFile.{Claim}
use Rattle.s2edit.specs.Content.{Content}
use Rattle.s2session.specs.Session.{Spells}
use Rattle.s2session.specs.declared.fault.ReadFault.{ReadFault}
use Rattle.s2session.specs.declared.fault.ReadFault.TheVariants.{Form, Device, Memory}

-- `Form` is answered only if the bytes spell no session; a read may fail and memory may run out at any time
abbrev pub RefusesToRead : ReadFault → List ℕ → Type 0
RefusesToRead Form bytes = (s : Content) → Spells bytes s → ⊥
RefusesToRead Device bytes = Unit {0}
RefusesToRead Memory bytes = Unit {0}

-- `old` and `new` say what may be left of a file before and after reads of it, by what is claimed of the file: for
-- whatever may be left after them, bytes for which `P` holds may have been left before them
pub record WasLeft (old new : Claim → List ℕ → Type 0) (P : List ℕ → Type 0) : Type 0 where
  pub back : (claim : Claim) (rest : List ℕ) → new claim rest → (bytes : List ℕ) × old claim bytes × P bytes
