-- What only private contracts need, beside Errors.antt, which has what public contracts need.
use Rattle.std.specs.Prelude.{◌≡◌, ℕ, List, ◌++◌, false}
use Rattle.s2calc.specs.Calls.{Call}
use Rattle.s2process.specs.declared.errors.TextInMemory.{TextInMemory}
use Rattle.s2process.specs.declared.writer.ListedWriter.{ListedWriter}
use Rattle.s2process.specs.Listed.{taken, called}
use Rattle.s2process.specs.Errors.{Tells}

-- between these two times the text was given to the writer
pub record TellsMore {E : Type 0} (text : List ℕ) (old new : ListedWriter E) : Type 0 where
  pub bytes : List ℕ
  pub calls : List Call
  pub taken_are : taken new ≡ taken old ++ bytes
  pub called_are : called new ≡ called old ++ calls
  pub tells : Tells text bytes calls

-- if nothing is lost, nothing was lost before, and the part has come to the text
abbrev pub Puts : TextInMemory → List ℕ → TextInMemory → Type 0
Puts old part new = new.lost ≡ false → (old.lost ≡ false) × (new.bytes.items ≡ old.bytes.items ++ part)
