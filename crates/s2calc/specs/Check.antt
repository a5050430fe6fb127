-- The answer about a file.
use Rattle.std.specs.Prelude.{◌≡◌, ℕ, ◌⊎◌, Bool, false, true, List, length, Option, Result, Ok, Err}
use Rattle.s2list.specs.Union.{IsNormalForm}
use Rattle.s2list.specs.Count.{count_below}
use Rattle.s2shelf.specs.Shelf.{Files}
use Rattle.s2script.specs.declared.refusal.Refusal.TheVariants.{Name as NoName}
use Rattle.s2calc.specs.declared.refusal.Refusal.{Refusal}
use Rattle.s2calc.specs.declared.refusal.Refusal.TheVariants.{Words}
use Rattle.s2script.specs.FileName.{is_name}
use Rattle.s2calc.specs.declared.fault.RunFault.{RunFault}
use Rattle.s2calc.specs.Fetch.{FetchesUnion}
use Rattle.s2calc.specs.Program.{ShowsReply}
use Rattle.s2cell.specs.declared.TheConstants.{LEAVES}
use Rattle.s2calc.specs.Replies.{Reply, Says, Refuses}
use Rattle.s2calc.specs.Texts.{count_line}

-- the reply is the numbers of cells and leaves of the file; or no union could be read under the name
abbrev pub ChecksFile : List ℕ → Files → Reply → Files → Type 0
ChecksFile name old reply new =
    ((S : ℕ → Bool) × (u : List ℕ) × FetchesUnion name old (Ok S) new × IsNormalForm S u
    × (reply ≡ Says (count_line (length u) (count_below S LEAVES))))
    ⊎ ((refusal : Refusal) × FetchesUnion name old (Err refusal) new × (reply ≡ Refuses refusal))

-- the answer about the file under this name; the form of the name is checked first
abbrev pub Checks : List ℕ → Files → Reply → Files → Type 0
Checks name old reply new = ((is_name name ≡ false) × (reply ≡ Refuses (Words NoName)) × (new ≡ old))
    ⊎ ((is_name name ≡ true) × ChecksFile name old reply new)

-- the file was checked, and the answer was written as far as the writer took it
pub record ChecksAndTells (name : List ℕ) (old new : Files) (output_old output_new : Option (List ℕ))
    (result : Result Bool RunFault) : Type 0 where
  pub reply : Reply
  pub checks : Checks name old reply new
  pub tells : ShowsReply reply output_old output_new result
