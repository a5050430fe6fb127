use Rattle.std.proofs.Common.{◌≡◌, ◌∙◌, ℕ, ◌⊎◌, inl, inr, List, [], ◌∷◌, false, Option, None, Some, Err, refl, ap}
use Rattle.std.proofs.Common.{sym, subst}
use Rattle.std.specs.List.{AllByRecursion}
use Rattle.std.specs.Prelude.{IfSome, option_map}
use Rattle.std.proofs.lemmas.List.{append-nil}
use Rattle.std.proofs.lemmas.Option.{same_Some, none-some}
use Rattle.s2shelf.specs.FileCalls.{FileCall, Makes, NotOpened, NotRead, NotStored, path_of, path_to}
use Rattle.s2shelf.specs.Shelf.{Files, Finding, NoFile, Opened, Holding, Beginning, Written, Failed, Found, Allows}
use Rattle.s2shelf.specs.Shelf.{is_opening, finding_of, FindsMore, Finds, MayFind, FailsToGet, AsksSystem, AsksFor}
use Rattle.s2shelf.specs.Shelf.{CallsFor}
use Rattle.s2shelf.proofs.Opened.{asks_so}
use Rattle.s2shelf.specs.declared.shelf.ShelfFault.{ShelfFault}
use Rattle.s2shelf.specs.declared.shelf.ShelfFault.TheVariants.{Device, Memory as NoRoom}
use Rattle.s2script.specs.declared.command.Command.{Command}
use Rattle.s2script.specs.declared.command.Command.TheVariants.{Edit, Load, Save, Dump, Restore, Undo, Redo, Ask}
use Rattle.s2script.specs.declared.command.Parsed.{Parsed}
use Rattle.s2calc.specs.declared.refusal.Refusal.{Refusal}
use Rattle.s2calc.specs.declared.refusal.Refusal.TheVariants.{Memory}
use Rattle.s2calc.specs.World.{World}
use Rattle.s2calc.specs.Replies.{Reply, Refuses}
use Rattle.s2calc.specs.Fetch.{Fetches}
use Rattle.s2calc.specs.LawsScripts.{FoundOneMore, AsksOnlyFor}
use Rattle.s2calc.specs.Step.{Loads, WritesFile, Restores, Acts, StepBy, file_in}
use Rattle.s2calc.proofs.laws.asks_once.Goals as goal

-- each of the calls has this path
abbrev AllAt : List ℕ → List FileCall → Type 0
AllAt path calls = AllByRecursion (λ call. path_of call ≡ path) calls

not_opened : (path : List ℕ) (calls : List FileCall) → NotOpened path calls → AllAt path calls
not_opened path calls (inl is) = subst (AllAt path) (sym is) (refl, tt)
not_opened path calls (inr (inl is)) = subst (AllAt path) (sym is) (refl, (refl, tt))
not_opened path calls (inr (inr is)) = subst (AllAt path) (sym is) (refl, (refl, (refl, (refl, tt))))

not_read : (path : List ℕ) (calls : List FileCall) → NotRead path calls → AllAt path calls
not_read path calls (inl none) = not_opened path calls none
not_read path calls (inr (bytes, is)) = subst (AllAt path) (sym is) (refl, (refl, (refl, (refl, (refl, tt)))))

not_stored : (path bytes : List ℕ) (calls : List FileCall) → NotStored path bytes calls → AllAt path calls
not_stored path bytes calls (inl is) = subst (AllAt path) (sym is) (refl, tt)
not_stored path bytes calls (inr (inl is)) = subst (AllAt path) (sym is) (refl, (refl, tt))
not_stored path bytes calls (inr (inr is)) = subst (AllAt path) (sym is) (refl, (refl, (refl, (refl, tt))))

found_at : (f : Finding) (path : List ℕ) (calls : List FileCall) → CallsFor f path calls → AllAt path calls
found_at NoFile path calls none = not_opened path calls none
found_at Opened path calls is = subst (AllAt path) (sym is) (refl, (refl, (refl, tt)))
found_at (Holding bytes) path calls is = subst (AllAt path) (sym is) (refl, (refl, (refl, (refl, (refl, tt)))))
found_at (Beginning bytes) path calls (more, is) =
    subst (AllAt path) (sym is) (refl, (refl, (refl, (refl, (refl, tt)))))
found_at (Written bytes) path calls is = subst (AllAt path) (sym is) (refl, (refl, (refl, (refl, tt))))
found_at (Failed Device) path calls none = not_read path calls none
found_at (Failed NoRoom) path calls (inl is) = subst (AllAt path) (sym is) tt
found_at (Failed NoRoom) path calls (inr none) = not_read path calls none

makes_none : (folder : Option (List ℕ)) (a : List FileCall) (name : List ℕ) →
    IfSome folder (λ path. Makes a a (AllAt (path_to path name)))
makes_none None a name = tt
makes_none (Some path) a name = ([], sym (append-nil a), tt)

-- what is known of a content is no opening
no_opening : (f : Finding) (content : Option (List ℕ)) → Allows f content → is_opening f ≡ false
no_opening NoFile content allows = refl
no_opening Opened content allows = absurd allows
no_opening (Holding bytes) content allows = refl
no_opening (Beginning bytes) content allows = refl
no_opening (Written bytes) content allows = absurd allows
no_opening (Failed fault) content allows = absurd allows

known_is_none : (content : Option (List ℕ)) → is_opening (finding_of content) ≡ false
known_is_none None = refl
known_is_none (Some bytes) = refl

module _ (old new : World) (reply : Reply) (before : List Found) (e : old.files.found ≡ Some before) where
  abbrev Once : List ℕ → Type 0
  Once name = (FoundOneMore name before new.files ⊎ ((reply ≡ Refuses Memory) × (new.files.found ≡ Some before)))
      × AsksOnlyFor name old.files new.files

  once_by : (name : List ℕ) (f : Finding) (P : List ℕ → List FileCall → Type 0) → is_opening f ≡ false →
      FindsMore old.files name f new.files → AsksSystem old.files new.files P
      → ((folder : List ℕ) (calls : List FileCall) → P folder calls → AllAt (path_to folder name) calls) → Once name
  once_by name f P none more asks at_path = (
    inl (f, none, more ∙ ap (option_map (λ (fs : List Found). record { name = name; finding = f } ∷ fs)) e),
    asks_so old.files new.files P (λ folder. AllAt (path_to folder name)) asks at_path,
  )

  once : (name : List ℕ) (f : Finding) → is_opening f ≡ false → FindsMore old.files name f new.files
      → AsksFor old.files name f new.files → Once name
  once name f none more asks =
      once_by name f (λ folder. CallsFor f (path_to folder name)) none more asks
      (λ folder calls. found_at f (path_to folder name) calls)

  finds : (name : List ℕ) (content : Option (List ℕ)) → Finds old.files name content new.files → Once name
  finds name content f = once name (finding_of content) (known_is_none content) f.asked f.calls

  may_find : (name : List ℕ) (content : Option (List ℕ)) → MayFind old.files name content new.files → Once name
  may_find name content f = once name f.finding (no_opening f.finding content f.allows) f.asks.asked
      f.asks.calls

  fails_to_get : (name : List ℕ) (fault : ShelfFault) → FailsToGet old.files name new.files fault → Once name
  fails_to_get name fault (inl f) = once name (Failed fault) refl f.found f.calls
  fails_to_get name fault (inr (memory, found)) = may_find name found.0 found.1

  fetches : (name : List ℕ) (refusal : Refusal) → Fetches name old.files (Err refusal) new.files → Once name
  fetches name refusal (inl f) = finds name None f.1
  fetches name refusal (inr (inl f)) = fails_to_get name Device f.1
  fetches name refusal (inr (inr f)) = fails_to_get name NoRoom f.1

  loads : (r : ℕ) (name : List ℕ) → Loads r name old reply new → Once name
  loads r name (inl (S, (bytes, found, file), gets)) = finds name (Some bytes) found
  loads r name (inr (refusal, inl f, answer, same)) = fetches name refusal f
  loads r name (inr (refusal, inr (bytes, found, refuses), answer, same)) = may_find name (Some bytes) found

  writes : (AreThose : List ℕ → Type 0) (name : List ℕ) → WritesFile AreThose name old reply new → Once name
  writes AreThose name (same, inl (bytes, those, inl (answer, puts))) = once name (Written bytes) refl puts.found
      puts.calls
  writes AreThose name (same, inl (bytes, those, inr (inl (answer, loses)))) = once_by name (Failed Device) _ refl
      loses.found loses.calls (λ folder. not_stored (path_to folder name) bytes)
  writes AreThose name (same, inl (bytes, those, inr (inr (answer, fails)))) = once name (Failed NoRoom) refl
      fails.0.found fails.0.calls
  writes AreThose name (same, inr (answer, keeps)) = (
    inr (answer, ap (λ (h : Files). h.found) keeps ∙ e),
    subst (AsksOnlyFor name old.files) (sym keeps) (refl, makes_none old.files.folder old.files.calls name),
  )

  restores : (name : List ℕ) → Restores name old reply new → Once name
  restores name (inl (bytes, found, restored, answer)) = finds name (Some bytes) found
  restores name (inr (refusal, inl f, answer, same)) = fetches name refusal f
  restores name (inr (refusal, inr (bytes, found, refuses), answer, same)) = may_find name (Some bytes) found

  acts : (name : List ℕ) (command : Command) → file_in command ≡ Some name → Acts command old reply new → Once name
  acts name (Edit r edit) is a = absurd (none-some name is)
  acts name (Load r other) is a = subst Once (same_Some other name is) (loads r other a)
  acts name (Save r other) is a = subst Once (same_Some other name is) (writes _ other a)
  acts name (Dump other) is a = subst Once (same_Some other name is) (writes _ other a)
  acts name (Restore other) is a = subst Once (same_Some other name is) (restores other a)
  acts name Undo is a = absurd (none-some name is)
  acts name Redo is a = absurd (none-some name is)
  acts name (Ask question) is a = absurd (none-some name is)

pub returns : goal.returns
returns c = λ old new line name reply command before says is step e. acts old new reply before e name command is
    (subst (λ (h : Parsed). StepBy h old reply new) says step.by)
