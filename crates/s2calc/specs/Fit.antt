-- The answer with the picture of the part of the faces in which the unions of files lie.
use Rattle.std.specs.Prelude.{◌≡◌, ℕ, ◌⊎◌, ◌≤◌, ◌<◌, ◌^◌, Bool, false, true, List, length, Option, Result}
use Rattle.s2shelf.specs.Shelf.{Files}
use Rattle.s2draw.specs.Overlay.{Layer}
use Rattle.s2draw.specs.Zoom.{zoomed}
use Rattle.s2script.specs.declared.refusal.Refusal.TheVariants.{Name as NoName}
use Rattle.s2calc.specs.declared.refusal.Refusal.{Refusal}
use Rattle.s2calc.specs.declared.refusal.Refusal.TheVariants.{Words, TooMany}
use Rattle.s2calc.specs.declared.fault.RunFault.{RunFault}
use Rattle.s2calc.specs.Overlay.{all_are_names, ReadsLayers, RefusesFiles}
use Rattle.s2calc.specs.Program.{ShowsReply}
use Rattle.s2calc.specs.Replies.{Reply, Says, Refuses}

-- the reply is the picture of the part in which the unions of the files lie; or they are not drawn
abbrev pub FitsFiles : List (List ℕ) → Files → Reply → Files → Type 0
FitsFiles names old reply new =
    ((layers : List Layer) × ReadsLayers names old layers new × (reply ≡ Says (zoomed layers)))
    ⊎ ((refusal : Refusal) × RefusesFiles names old refusal new × (reply ≡ Refuses refusal))

-- the picture of the files under these names, of which there are at most 65,535; the form of the names is checked
-- before any file is asked for
abbrev pub Fits : List (List ℕ) → Files → Reply → Files → Type 0
Fits names old reply new =
    ((2 ^ 16 ≤ length names) × (reply ≡ Refuses TooMany) × (new ≡ old))
    ⊎ ((length names < 2 ^ 16) × (all_are_names names ≡ false) × (reply ≡ Refuses (Words NoName)) × (new ≡ old))
    ⊎ ((length names < 2 ^ 16) × (all_are_names names ≡ true) × FitsFiles names old reply new)

-- the files were drawn, and the answer was written as far as the writer took it
pub record FitsAndTells (names : List (List ℕ)) (old new : Files) (output_old output_new : Option (List ℕ))
    (result : Result Bool RunFault) : Type 0 where
  pub reply : Reply
  pub fits : Fits names old reply new
  pub tells : ShowsReply reply output_old output_new result
