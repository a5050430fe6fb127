-- The first bytes of a file.
use Rattle.std.proofs.Common.{◌≡◌, ◌≢◌, ℕ, Bool, true, false, List, ◌++◌, length, min, take, drop, Option, None, Some}
use Rattle.std.proofs.Common.{inr, refl, sym, ap, ◌∙◌, subst, arith, length-take}
use Rattle.std.specs.Prelude.{◌==◌, if◌then◌else◌, option_map}
use Rattle.std.proofs.lemmas.Bool.{false_from_ne_true, eqb-false}
use Rattle.std.proofs.lemmas.Bool.Decides.{Decides-eqb}
use Rattle.std.proofs.lemmas.List.{take_all, take-append-drop}
use Rattle.std.proofs.lemmas.Option.{same_Some, none-some}
use Rattle.s2shelf.specs.Shelf.{Files, Holding, Beginning, NoFile, Asks, Finds, FindsBeginning, Allows, finding_begun}
use Rattle.s2shelf.specs.Shelf.{FailsToGet}
use Rattle.s2shelf.specs.declared.shelf.ShelfFault.TheVariants.{Memory}

pub some_begun : (content : Option (List ℕ)) (most : ℕ) (bytes : List ℕ) →
    Some bytes ≡ option_map (take most) content
    → (whole : List ℕ) × (content ≡ Some whole) × (bytes ≡ take most whole)
some_begun None most bytes e = absurd (none-some bytes (sym e))
some_begun (Some whole) most bytes e = (whole, refl, same_Some bytes (take most whole) e)

pub none_begun : (content : Option (List ℕ)) (most : ℕ) → None ≡ option_map (take most) content → content ≡ None
none_begun None most e = refl
none_begun (Some whole) most e = absurd (none-some (take most whole) e)

-- there is no beginning of a file that isn't there
pub begun_none : (old new : Files) (name : List ℕ) (most : ℕ) → FindsBeginning old name most None new →
    Finds old name None new
begun_none old new name most f = subst (λ c. Asks old name c NoFile new) (none_begun f.content most f.is) f.asks

-- fewer bytes than were asked for are the whole content
pub fewer_begun : (most : ℕ) (bytes whole : List ℕ) → bytes ≡ take most whole → length bytes ≢ most → bytes ≡ whole
fewer_begun most bytes whole is fewer =
    let len : length bytes ≡ min most (length whole) = ap length is ∙ length-take most whole in
    is ∙ take_all most whole (omega (arith, len, fewer))

-- and are found as that
pub fewer_found : (most : ℕ) (bytes : List ℕ) → length bytes ≢ most →
    finding_begun most (Some bytes) ≡ Holding bytes
fewer_found most bytes fewer =
    ap (λ (b : Bool). if b then Beginning bytes else Holding bytes)
    (false_from_ne_true (length bytes == most) (λ e. fewer ((Decides-eqb (length bytes) most).0 e)))

-- a beginning of fewer bytes than were asked for is the whole file
pub whole : (old new : Files) (name : List ℕ) (most : ℕ) (bytes : List ℕ) →
    FindsBeginning old name most (Some bytes) new → length bytes ≢ most → Finds old name (Some bytes) new
whole old new name most bytes f fewer =
    let (whole, is, begins) = some_begun f.content most bytes f.is in
    let all : bytes ≡ whole = fewer_begun most bytes whole begins fewer in
    subst (λ c. Asks old name c (Holding bytes) new) (is ∙ ap Some (sym all))
    (subst (λ g. Asks old name f.content g new) (fewer_found most bytes fewer) f.asks)

allowed_as : (most : ℕ) (bytes whole : List ℕ) (b : Bool) → (length bytes == most) ≡ b → bytes ≡ take most whole →
    Allows (if b then Beginning bytes else Holding bytes) (Some whole)
allowed_as most bytes whole true e is =
    (drop most whole, ap Some (sym (take-append-drop most whole) ∙ ap (λ xs. xs ++ drop most whole) (sym is)))
allowed_as most bytes whole false e is =
    ap Some (sym (fewer_begun most bytes whole is (eqb-false (length bytes) most e)))

-- the content is allowed by what was found of its first bytes
pub begun_allows : (content : Option (List ℕ)) (most : ℕ) (beginning : Option (List ℕ)) →
    beginning ≡ option_map (take most) content → Allows (finding_begun most beginning) content
begun_allows content most None e = none_begun content most e
begun_allows content most (Some bytes) e =
    let (whole, is, begins) = some_begun content most bytes e in
    subst (λ c. Allows (finding_begun most (Some bytes)) c) (sym is)
    (allowed_as most bytes whole (length bytes == most) refl begins)

-- a file was found, and then there was no memory for it
pub fails : (old new : Files) (name : List ℕ) (most : ℕ) (beginning : Option (List ℕ)) →
    FindsBeginning old name most beginning new → FailsToGet old name new Memory
fails old new name most beginning f = inr (
  refl,
  (
    f.content,
    record {
      finding = finding_begun most beginning;
      allows = begun_allows f.content most beginning f.is;
      asks = f.asks;
    },
  ),
)
