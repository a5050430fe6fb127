use Rattle.std.proofs.Common.{◌≡◌, ◌∙◌, ℕ, List, [], ◌∷◌, Option, None, Some, Err, refl, sym, ap, subst, inl, inr}
use Rattle.std.proofs.Common.{append-nil}
use Rattle.std.specs.Prelude.{option_map}
use Rattle.std.proofs.lemmas.Option.{none-some}
use Rattle.s2file.specs.File.{HasFault}
use Rattle.s2file.specs.declared.fault.FileFault.{FileFault}
use Rattle.s2shelf.specs.Shelf.{Files, Finding, NoFile, Opened, Holding, Beginning, Written, Failed, Found, Allows}
use Rattle.s2shelf.specs.Shelf.{Asks}
use Rattle.s2script.specs.declared.command.Parsed.{Parsed}
use Rattle.s2calc.specs.World.{World}
use Rattle.s2calc.specs.Replies.{Reply, Refuses}
use Rattle.s2calc.specs.declared.refusal.Refusal.{Refusal}
use Rattle.s2calc.specs.declared.refusal.Refusal.TheVariants.{Format}
use Rattle.s2calc.specs.Fetch.{Reads}
use Rattle.s2calc.specs.Step.{Loads, StepBy}
use Rattle.s2calc.specs.Laws.{IsPlain}
use Rattle.s2calc.specs.LawsScripts.{LoadsFinding}
use Rattle.s2calc.proofs.laws.loads_what_was_found.Goals as goal

asked_once : (a b : Files) (name : List ℕ) (content : Option (List ℕ)) (finding : Finding) (before : List Found) →
    Asks a name content finding b → a.found ≡ Some before
    → b.found ≡ Some (record { name = name; finding = finding } ∷ before)
asked_once a b name content finding before asks e =
    asks.asked ∙ ap (option_map (λ (fs : List Found). record { name = name; finding = finding } ∷ fs)) e

-- what was answered of bytes that are refused
module _ (r : ℕ) (old new : World) (reply : Reply) (refusal : Refusal) (answer : reply ≡ Refuses refusal)
    (same : new.state ≡ old.state) (p : IsPlain reply) where
  refused : (bytes : List ℕ) → Reads bytes (Err refusal)
      → (fault : FileFault) × HasFault bytes fault × (reply ≡ Refuses Format) × (new.state ≡ old.state)
  refused bytes (inl (fault, has, room, format)) = (fault, has, answer ∙ ap (λ x. Refuses x) format, same)
  refused bytes (inr memory) = absurd (p.0 (answer ∙ ap (λ x. Refuses x) memory))

  refused_as : (finding : Finding) (bytes : List ℕ) → Allows finding (Some bytes) →
      ((all : List ℕ) → Allows finding (Some all) → Reads all (Err refusal)) → LoadsFinding finding r old reply new
  refused_as NoFile bytes allows refuses = absurd (none-some bytes (sym allows))
  refused_as Opened bytes allows refuses = absurd allows
  refused_as (Holding whole) bytes allows refuses = inr (refused whole (refuses whole refl))
  refused_as (Beginning first) bytes allows refuses =
      refused first (refuses first ([], ap Some (sym (append-nil first))))
  refused_as (Written stored) bytes allows refuses = absurd allows
  refused_as (Failed fault) bytes allows refuses = absurd allows

loads : (old new : World) (name : List ℕ) (reply : Reply) (r : ℕ) (before : List Found) → Loads r name old reply new →
    IsPlain reply → old.files.found ≡ Some before
    → (finding : Finding) × (new.files.found ≡ Some (record { name = name; finding = finding } ∷ before))
    × LoadsFinding finding r old reply new
loads old new name reply r before (inl (S, (bytes, found, file), gets)) p e = (
  Holding bytes,
  asked_once old.files new.files name (Some bytes) (Holding bytes) before found e,
  inl (S, file, gets),
)
loads old new name reply r before (inr (refusal, inl (inl (missing, found)), answer, same)) p e = (
  NoFile,
  asked_once old.files new.files name None NoFile before found e,
  (answer ∙ ap (λ x. Refuses x) missing, same),
)
loads old new name reply r before (inr (refusal, inl (inr (inl (failed, _))), answer, same)) p e =
    absurd (p.1 (answer ∙ ap (λ x. Refuses x) failed))
loads old new name reply r before (inr (refusal, inl (inr (inr (failed, _))), answer, same)) p e =
    absurd (p.0 (answer ∙ ap (λ x. Refuses x) failed))
loads old new name reply r before (inr (refusal, inr (bytes, found, refuses), answer, same)) p e = (
  found.finding,
  asked_once old.files new.files name (Some bytes) found.finding before found.asks e,
  refused_as r old new reply refusal answer same p found.finding bytes found.allows refuses,
)

pub returns : goal.returns
returns c = λ old new line name reply r before says step p e. loads old new name reply r before
    (subst (λ (h : Parsed). StepBy h old reply new) says step.by) p e
