-- The answers with pictures.
use Rattle.std.specs.Prelude.{◌≡◌, ℕ, ◌⊎◌, Bool, false, true, List, is_some, Option, Result, Ok, Err}
use Rattle.std.specs.List.{list_all}
use Rattle.s2list.specs.Union.{IsNormalForm}
use Rattle.s2shelf.specs.Shelf.{Files}
use Rattle.s2draw.specs.Picture.{picture}
use Rattle.s2script.specs.declared.refusal.Refusal.TheVariants.{Name as NoName, Cell as NoCell}
use Rattle.s2script.specs.FileName.{is_name}
use Rattle.s2script.specs.Named.{cell_named}
use Rattle.s2script.specs.CellList.{cells_of}
use Rattle.s2calc.specs.declared.refusal.Refusal.{Refusal}
use Rattle.s2calc.specs.declared.refusal.Refusal.TheVariants.{Words, Memory}
use Rattle.s2calc.specs.declared.fault.RunFault.{RunFault}
use Rattle.s2calc.specs.Fetch.{FetchesUnion}
use Rattle.s2calc.specs.Program.{ShowsReply}
use Rattle.s2calc.specs.Replies.{Reply, Says, Refuses}

-- the reply is the picture of the cells; or there was no memory for it
abbrev pub DrawsList : List ℕ → Bool → Reply → Type 0
DrawsList cells curve reply = (reply ≡ Says (picture curve cells)) ⊎ (reply ≡ Refuses Memory)

-- the reply is the picture of the normal form of the file's leaves; or no union could be read under the name
abbrev pub DrawsFile : List ℕ → Bool → Files → Reply → Files → Type 0
DrawsFile name curve old reply new =
    ((S : ℕ → Bool) × (u : List ℕ) × FetchesUnion name old (Ok S) new × IsNormalForm S u × DrawsList u curve reply)
    ⊎ ((refusal : Refusal) × FetchesUnion name old (Err refusal) new × (reply ≡ Refuses refusal))

-- the picture of the file under this name; the form of the name is checked first
abbrev pub Draws : List ℕ → Bool → Files → Reply → Files → Type 0
Draws name curve old reply new = ((is_name name ≡ false) × (reply ≡ Refuses (Words NoName)) × (new ≡ old))
    ⊎ ((is_name name ≡ true) × DrawsFile name curve old reply new)

-- whether every one of the words names a cell
abbrev pub all_name_cells : List (List ℕ) → Bool
all_name_cells words = list_all (λ word. is_some (cell_named word)) words

-- the reply is the picture of the cells that the words name, in their order; or `error cell` if some word names none
abbrev pub DrawsWords : List (List ℕ) → Bool → Reply → Type 0
DrawsWords words curve reply = ((all_name_cells words ≡ false) × (reply ≡ Refuses (Words NoCell)))
    ⊎ ((all_name_cells words ≡ true) × DrawsList (cells_of words) curve reply)

-- the file was drawn, and the answer was written as far as the writer took it
pub record DrawsAndTells (name : List ℕ) (curve : Bool) (old new : Files) (output_old output_new : Option (List ℕ))
    (result : Result Bool RunFault) : Type 0 where
  pub reply : Reply
  pub draws : Draws name curve old reply new
  pub tells : ShowsReply reply output_old output_new result

-- the cells that the words name were drawn, and the answer was written as far as the writer took it
pub record DrawsWordsAndTells (words : List (List ℕ)) (curve : Bool) (output_old output_new : Option (List ℕ))
    (result : Result Bool RunFault) : Type 0 where
  pub reply : Reply
  pub draws : DrawsWords words curve reply
  pub tells : ShowsReply reply output_old output_new result
