-- What a session file and a union file spell.
use Rattle.std.proofs.Common.{◌≡◌, ℕ, zero, suc, ◌≤◌, List, [], ◌∷◌, length, replicate, slice_index, Result, Ok}
use Rattle.std.proofs.Common.{Err, Vec, Global, inl, inr, refl, sym, ap, ◌∙◌, subst, arith}
use Rattle.std.specs.Prelude.{IfOk}
use Rattle.std.specs.declared.alloc.AllocError.{AllocError}
use Rattle.std.specs.List.{AllByRecursion}
use Rattle.s2list.specs.Union.{has_leaf, IsLocal}
use Rattle.s2list.proofs.Normal.{same_from_leaves}
use Rattle.s2list.proofs.Shortest.{shortest}
use Rattle.s2edit.specs.Content.{Content, IsRegisterList, IsContent}
use Rattle.s2session.specs.Session.{content_of_list, session_text, IsSessionFile, IsUnionFile, Spells}
use Rattle.s2file.specs.File.{file_ids}
use Rattle.s2file.proofs.Files.{length-file_ids, same_leaves}
use Rattle.s2session.proofs.Fronts.{parts_of, one_session}

-- a session file spells one session
file_same : {bytes : List ℕ} {s t : Content} → IsSessionFile bytes s → IsSessionFile bytes t → s ≡ t
file_same {s} {t} f g =
    let parts = tails _ _ _ _ _ _ (sym f.text ∙ g.text) in
    (one_session (parts_of _ f.content refl) (parts_of _ g.content parts)).0
  where
    tails : (a b c d : ℕ) (xs ys : List ℕ) → a ∷ b ∷ xs ≡ c ∷ d ∷ ys → xs ≡ ys
    tails a b c d xs ys e = cc

-- and so does a union file
union_same : {bytes : List ℕ} {s t : Content} → IsUnionFile bytes s → IsUnionFile bytes t → s ≡ t
union_same {bytes} f g =
    let cells : f.cells ≡ g.cells = same_from_leaves f.cells g.cells f.local g.local
    (same_leaves bytes (has_leaf f.cells) (has_leaf g.cells) f.file g.file) in
    f.content ∙ ap content_of_list cells ∙ sym g.content

pub first_of_file : {bytes : List ℕ} {s : Content} → IsSessionFile bytes s → slice_index bytes 0 ≡ 0x73
first_of_file f = ap (λ (l : List ℕ). slice_index l 0) f.text

apart : (bytes : List ℕ) (s t : Content) → IsSessionFile bytes s → IsUnionFile bytes t → ⊥
apart bytes s t f g = absurd (omega (arith, first_of_file f, g.file.is.framed.head.version.version))

pub one_spelled : (bytes : List ℕ) (s t : Content) → Spells bytes s → Spells bytes t → s ≡ t
one_spelled bytes s t (inl f) (inl g) = file_same f g
one_spelled bytes s t (inl f) (inr g) = absurd (apart bytes s t f g)
one_spelled bytes s t (inr f) (inl g) = absurd (apart bytes t s g f)
one_spelled bytes s t (inr f) (inr g) = union_same f g

-- a text spells the session that it is of
pub text_spells : (r : Result (Vec ℕ Global) AllocError) {s : Content} →
    IfOk r (λ bytes. bytes.items ≡ session_text s) → IsContent s → IfOk r (λ bytes. Spells bytes.items s)
text_spells (Ok bytes) text content = inl (record { content = content; text = text })
text_spells (Err e) text content = tt

-- a union file spells what a session may tell: its union has no more cells than the file
local_nothing : IsLocal []
local_nothing = record {
  cells = λ k d h. absurd (omega arith);
  ascending = λ k h. absurd (omega arith);
  apart = λ i j d h k. absurd (omega arith);
  unmerged = λ p cell inner h. let c = h 0 (omega arith) in absurd (omega (arith, c.1));
}

all_empty : (n : ℕ) → AllByRecursion IsRegisterList (replicate n [])
all_empty zero = tt
all_empty (suc n) = (record { local = local_nothing; few = omega arith }, all_empty n)

pub union_content : {bytes : List ℕ} {s : Content} → IsUnionFile bytes s → IsContent s
union_content {bytes} f =
    let few : length f.cells ≤ length (file_ids bytes) =
    shortest (has_leaf f.cells) f.cells f.local (λ x. refl) (file_ids bytes) f.file.is.cells
    (λ x. sym (f.file.leaves x)) in
    let many = length-file_ids bytes f.file.is.framed in
    subst IsContent (sym f.content) (record {
      count = refl;
      registers = (record { local = f.local; few = omega (arith, few, many, f.file.most) }, all_empty 25);
      past = tt;
      future = tt;
      few = omega arith;
    })
