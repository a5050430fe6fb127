-- What a folder hands over of a file that was read.
use Rattle.std.proofs.Common.{◌≡◌, ℕ, Bool, true, false, List, ◌++◌, length, take, drop, Option, None, Some}
use Rattle.std.proofs.Common.{Result, Ok, refl, sym, ap, ◌∙◌, subst, append_assoc}
use Rattle.std.specs.Prelude.{◌==◌, if◌then◌else◌, option_map}
use Rattle.std.proofs.lemmas.Bool.{eqb-false}
use Rattle.std.proofs.lemmas.List.{take-append-drop}
use Rattle.std.proofs.lemmas.Option.{same_Some, none-some}
use Rattle.s2shelf.specs.FileCalls.{FileCall, Makes, Reads, opening, reading}
use Rattle.s2shelf.specs.Shelf.{Beginning, Holding, CallsFor, finding_begun}
use Rattle.s2shelf.specs.Working.Files.{OpensFile}
use Rattle.s2shelf.proofs.Begun.{fewer_begun}

-- the calls of an opening and of the reading of what was opened, of which the beginning was handed over
pub opened_and_read : {F E V : Type 0} (items : V → List ℕ) (path : List ℕ) (most : ℕ) (old mid new : List FileCall)
    (opened : Result F E) (file : F) (bytes : V) (made : Option V) → opened ≡ Ok file →
    Makes old mid (OpensFile path opened) → Makes mid new (λ calls. calls ≡ reading path (items bytes)) →
    option_map items made ≡ Some (take most (items bytes)) → Makes old new (Reads items path most (Ok made))
opened_and_read items path most old mid new opened file bytes None is opens reads same = absurd (none-some _ same)
opened_and_read items path most old mid new opened file bytes (Some v) is opens reads same =
    let (first, followed, first_is) = subst (λ o. Makes old mid (OpensFile path o)) is opens in (
      first ++ reads.0,
      reads.1 ∙ ap (λ (calls : List FileCall). calls ++ reads.0) followed ∙ append_assoc old first reads.0,
      (
        items bytes,
        ap (λ (calls : List FileCall). calls ++ reads.0) first_is
            ∙ ap (λ (calls : List FileCall). opening path ++ calls) reads.2,
        same_Some (items v) (take most (items bytes)) same,
      ),
    )

-- the calls of a reading are those of what is found by it
begun_calls : (most : ℕ) (bytes gave path : List ℕ) (calls : List FileCall) (b : Bool) → (length bytes == most) ≡ b →
    calls ≡ opening path ++ reading path gave → bytes ≡ take most gave →
    CallsFor (if b then Beginning bytes else Holding bytes) path calls
begun_calls most bytes gave path calls true e is cut = (
  drop most gave,
  is ∙ ap (λ (g : List ℕ). opening path ++ reading path g)
      (sym (take-append-drop most gave) ∙ ap (λ (xs : List ℕ). xs ++ drop most gave) (sym cut)),
)
begun_calls most bytes gave path calls false e is cut =
    is ∙ ap (λ (g : List ℕ). opening path ++ reading path g)
    (sym (fewer_begun most bytes gave cut (eqb-false (length bytes) most e)))

calls_of_finding : {V : Type 0} (items : V → List ℕ) (path : List ℕ) (most : ℕ) (calls : List FileCall)
    (made : Option V) → Reads items path most (Ok made) calls →
    CallsFor (finding_begun most (option_map items made)) path calls
calls_of_finding items path most calls None read = read
calls_of_finding items path most calls (Some v) (gave, is, cut) =
    begun_calls most (items v) gave path calls (length (items v) == most) refl is cut

pub makes_finding : {V : Type 0} (items : V → List ℕ) (path : List ℕ) (most : ℕ) (old new : List FileCall)
    (made : Option V) → Makes old new (Reads items path most (Ok made)) →
    Makes old new (CallsFor (finding_begun most (option_map items made)) path)
makes_finding items path most old new made (calls, more, read) =
    (calls, more, calls_of_finding items path most calls made read)
