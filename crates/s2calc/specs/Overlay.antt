-- The answer with the picture of several files.
use Rattle.std.specs.Prelude.{◌≡◌, ℕ, ◌⊎◌, ◌≤◌, ◌<◌, ◌^◌, Bool, false, true, List, [], ◌∷◌, ◌++◌, length}
use Rattle.std.specs.Prelude.{Option, Result, Ok, Err}
use Rattle.std.specs.List.{list_all}
use Rattle.s2list.specs.Union.{IsNormalForm}
use Rattle.s2shelf.specs.Shelf.{Files}
use Rattle.s2draw.specs.Overlay.{Layer, overlay}
use Rattle.s2script.specs.declared.refusal.Refusal.TheVariants.{Name as NoName}
use Rattle.s2script.specs.FileName.{is_name}
use Rattle.s2calc.specs.declared.refusal.Refusal.{Refusal}
use Rattle.s2calc.specs.declared.refusal.Refusal.TheVariants.{Words, Memory, TooMany}
use Rattle.s2calc.specs.declared.fault.RunFault.{RunFault}
use Rattle.s2calc.specs.Fetch.{FetchesUnion}
use Rattle.s2calc.specs.Program.{ShowsReply}
use Rattle.s2calc.specs.Replies.{Reply, Says, Refuses}

-- the file under this name was read, and these cells are the normal form of its leaves
pub record ReadsCells (name : List ℕ) (old : Files) (cells : List ℕ) (new : Files) : Type 0 where
  pub leaves : ℕ → Bool
  pub fetches : FetchesUnion name old (Ok leaves) new
  pub normal : IsNormalForm leaves cells

-- the files under these names were read one after another, and these are their names and cells
abbrev pub ReadsLayers : List (List ℕ) → Files → List Layer → Files → Type 0
ReadsLayers [] old [] new = new ≡ old
ReadsLayers [] old (l ∷ ls) new = ⊥
ReadsLayers (name ∷ names) old [] new = ⊥
ReadsLayers (name ∷ names) old (l ∷ ls) new =
    (between : Files) × (l.name ≡ name) × ReadsCells name old l.cells between × ReadsLayers names between ls new

-- the files under the names were read up to the first one that could not be: this is why; the others were not asked for
pub record RefusesOne (names : List (List ℕ)) (old : Files) (refusal : Refusal) (new : Files) : Type 0 where
  pub before : List (List ℕ)
  pub name : List ℕ
  pub after : List (List ℕ)
  pub names_are : names ≡ before ++ name ∷ after
  pub layers : List Layer
  pub between : Files
  pub reads : ReadsLayers before old layers between
  pub refuses : FetchesUnion name between (Err refusal) new

-- the files under the first of the names were read, and then there was no memory for the picture
pub record StopsForMemory (names : List (List ℕ)) (old : Files) (refusal : Refusal) (new : Files) : Type 0 where
  pub before : List (List ℕ)
  pub after : List (List ℕ)
  pub names_are : names ≡ before ++ after
  pub layers : List Layer
  pub reads : ReadsLayers before old layers new
  pub memory : refusal ≡ Memory

-- why the files under these names are not drawn
abbrev pub RefusesFiles : List (List ℕ) → Files → Refusal → Files → Type 0
RefusesFiles names old refusal new = RefusesOne names old refusal new ⊎ StopsForMemory names old refusal new

-- the reply is the picture of the files, in the order of their names; or they are not drawn
abbrev pub OverlaysFiles : List (List ℕ) → Bool → Files → Reply → Files → Type 0
OverlaysFiles names curve old reply new =
    ((layers : List Layer) × ReadsLayers names old layers new × (reply ≡ Says (overlay curve layers)))
    ⊎ ((refusal : Refusal) × RefusesFiles names old refusal new × (reply ≡ Refuses refusal))

-- whether every one of the words has the form of a file's name
abbrev pub all_are_names : List (List ℕ) → Bool
all_are_names names = list_all is_name names

-- the picture of the files under these names, of which there are at most 65,535; the form of the names is checked
-- before any file is asked for
abbrev pub Overlays : List (List ℕ) → Bool → Files → Reply → Files → Type 0
Overlays names curve old reply new =
    ((2 ^ 16 ≤ length names) × (reply ≡ Refuses TooMany) × (new ≡ old))
    ⊎ ((length names < 2 ^ 16) × (all_are_names names ≡ false) × (reply ≡ Refuses (Words NoName)) × (new ≡ old))
    ⊎ ((length names < 2 ^ 16) × (all_are_names names ≡ true) × OverlaysFiles names curve old reply new)

-- the files were drawn, and the answer was written as far as the writer took it
pub record OverlaysAndTells (names : List (List ℕ)) (curve : Bool) (old new : Files)
    (output_old output_new : Option (List ℕ)) (result : Result Bool RunFault) : Type 0 where
  pub reply : Reply
  pub overlays : Overlays names curve old reply new
  pub tells : ShowsReply reply output_old output_new result
