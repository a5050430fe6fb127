-- What is found by a shelf whose calls are listed.
use Rattle.std.proofs.Common.{◌≡◌, ℕ, List, [], ◌∷◌, ◌++◌, length, min, take, Option, Some, inl, inr, refl, sym}
use Rattle.std.proofs.Common.{ap, ◌∙◌, subst, arith, length-take}
use Rattle.std.proofs.lemmas.Grind.{fold-append}
use Rattle.std.proofs.lemmas.List.{take_all}
use Rattle.s2shelf.specs.FileCalls.{FileCall, path_to}
use Rattle.s2shelf.specs.Shelf.{Files, Found, Finding, NoFile, Opened, Holding, Beginning, Written, Failed as ItFailed}
use Rattle.s2shelf.specs.Shelf.{Allows, Asks, AsksFor, CallsFor, FailsToGet, FindsBeginning, Opens}
use Rattle.s2shelf.specs.Shelf.{count_after, finding_begun}
use Rattle.s2shelf.specs.declared.shelf.ShelfFault.{ShelfFault}
use Rattle.s2shelf.specs.declared.shelf.ShelfFault.TheVariants.{Memory}
use Rattle.s2shelf.specs.declared.opened_file.OpenedFile.{OpenedFile as File}
use Rattle.s2shelf.proofs.Begun.{some_begun}
use Rattle.s2shelf.proofs.Opened.{asks_so}
use Rattle.s2process.specs.declared.shelf.ListedShelf.{ListedShelf}
use Rattle.s2process.specs.ShelfCalls.{HandedOver, OpenedFile, Failed}
use Rattle.s2process.specs.StreamCalls.{StreamCall, OfShelf, found_after, found_in}
use Rattle.s2process.specs.Listed.{calls_of_shelf, listed_files}

-- one more call adds what it found
found_more : (calls : List StreamCall) (c : StreamCall) → found_in (calls ++ c ∷ []) ≡ found_after (found_in calls) c
found_more calls c = fold-append found_after [] calls (c ∷ [])

-- what a folder asks for a file that it finds is what it may ask for one for which there is no memory
failed_after : (f : Finding) (content : Option (List ℕ)) → Allows f content → (path : List ℕ) (calls : List FileCall) →
    CallsFor f path calls → CallsFor (ItFailed Memory) path calls
failed_after NoFile content allows path calls asked = inr (inl asked)
failed_after Opened content allows path calls asked = absurd allows
failed_after (Holding bytes) content allows path calls asked = inr (inr (bytes, asked))
failed_after (Beginning bytes) content allows path calls (more, asked) = inr (inr (bytes ++ more, asked))
failed_after (Written bytes) content allows path calls asked = absurd allows
failed_after (ItFailed fault) content allows path calls asked = absurd allows

failed_calls : (old new : Files) (name : List ℕ) (fault : ShelfFault) → FailsToGet old name new fault →
    AsksFor old name (ItFailed fault) new
failed_calls old new name fault (inl f) = f.calls
failed_calls old new name fault (inr (memory, (content, found))) =
    subst (λ g. AsksFor old name (ItFailed g) new) (sym memory)
    (asks_so old new _ (λ folder. CallsFor (ItFailed Memory) (path_to folder name)) found.asks.calls
    (λ folder calls. failed_after found.finding content found.allows (path_to folder name) calls))

failed_count : (old new : Files) (name : List ℕ) (fault : ShelfFault) → FailsToGet old name new fault →
    new.failures ≡ count_after fault old.failures
failed_count old new name fault (inl f) = f.counted
failed_count old new name fault (inr (memory, (content, found))) =
    subst (λ g. new.failures ≡ count_after g old.failures) (sym memory) found.asks.same.1

module _ {S : Type 0} (files : S → Files) (old new : ListedShelf S) where
  -- it was asked for a file once, and this was found
  asks : (c : StreamCall) (name : List ℕ) (content : Option (List ℕ)) (f : Finding) →
      calls_of_shelf new ≡ calls_of_shelf old ++ c ∷ []
      → ((before : List Found) → found_after before c ≡ record { name = name; finding = f } ∷ before)
      → (files new.shelf).failures ≡ (files old.shelf).failures → AsksFor (files old.shelf) name f (files new.shelf)
      → Asks (listed_files files old) name content f (listed_files files new)
  asks c name content f listed finds same calls = record {
    same = (record { tells = refl; at = λ t other. refl }, same);
    holds = λ t. absurd cc;
    asked = ap Some (ap found_in listed ∙ found_more (calls_of_shelf old) c ∙ finds (found_in (calls_of_shelf old)));
    calls = calls;
  }

  -- it opened a file
  pub opens : {F : Type 0} (remaining : F → Option (List ℕ)) (name : List ℕ) (file : File F) →
      calls_of_shelf new ≡ calls_of_shelf old ++ OfShelf (OpenedFile name) ∷ []
      → Opens remaining (files old.shelf) name (Some file) (files new.shelf)
      → Opens remaining (listed_files files old) name (Some file) (listed_files files new)
  opens remaining name file listed below =
      record {
        same = (record { tells = refl; at = λ t other. refl }, below.same.1);
        asked = ap Some (ap found_in listed ∙ found_more (calls_of_shelf old) (OfShelf (OpenedFile name)));
        calls = below.calls;
        named = below.named;
        unread = below.unread;
        begins = below.begins;
        well = below.well;
        holds = λ content may t. absurd cc;
      }

  -- it handed over the first bytes of a file
  pub hands_over : (name : List ℕ) (most : ℕ) (shown bytes : List ℕ) → shown ≡ bytes
      → calls_of_shelf new ≡ calls_of_shelf old ++ OfShelf (HandedOver name most shown) ∷ []
      → FindsBeginning (files old.shelf) name most (Some bytes) (files new.shelf)
      → FindsBeginning (listed_files files old) name most (Some bytes) (listed_files files new)
  hands_over name most shown bytes is listed below =
      let begun = some_begun below.content most bytes below.is in
      let len : length bytes ≡ min most (length begun.0) = ap length begun.2 ∙ length-take most begun.0 in
      let all : take most bytes ≡ bytes = take_all most bytes (omega (arith, len)) in
      let call = subst (λ (b : List ℕ).
      calls_of_shelf new ≡ calls_of_shelf old ++ OfShelf (HandedOver name most b) ∷ []) is listed in
      record {
        content = Some bytes;
        asks = asks (OfShelf (HandedOver name most bytes)) name (Some bytes) (finding_begun most (Some bytes)) call
            (λ before. refl) below.asks.same.1 below.asks.calls;
        is = ap Some (sym all);
      }

  -- it failed to hand over a file
  pub fails_to_get : (name : List ℕ) (fault : ShelfFault) →
      calls_of_shelf new ≡ calls_of_shelf old ++ OfShelf (Failed name fault) ∷ []
      → FailsToGet (files old.shelf) name (files new.shelf) fault
      → FailsToGet (listed_files files old) name (listed_files files new) fault
  fails_to_get name fault listed below = inl (record {
    keeps = record { tells = refl; at = λ t other. refl };
    counted = failed_count (files old.shelf) (files new.shelf) name fault below;
    found = ap Some (ap found_in listed ∙ found_more (calls_of_shelf old) (OfShelf (Failed name fault)));
    calls = failed_calls (files old.shelf) (files new.shelf) name fault below;
  })
