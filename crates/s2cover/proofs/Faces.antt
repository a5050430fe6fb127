-- The search for the cells of a set in its one face.
use Rattle.std.proofs.Common.{◌≡◌, ℕ, ◌+◌, ◌-◌, ◌/◌, ◌^◌, ◌<◌, ◌≤◌, Bool, true, false, ◌&&◌, List}
use Rattle.std.proofs.Common.{[], length, Result, IfErr, refl, sym, ◌∙◌, ap, arith, max}
use Rattle.std.proofs.lemmas.Bool.{both_ways}
use Rattle.std.proofs.Math.Nat.{div-one}
use Rattle.std.proofs.lemmas.Result.{IfErr-weaker}
use Rattle.s2cell.proofs.Squares.{covers_block}
use Rattle.s2cell.specs.Rectangles.{Rect, rect_set}
use Rattle.s2cell.proofs.Rectangles.{in_rect_from}
use Rattle.s2cell.specs.Cell.{IsCell, level_of, place_of, face_of, covers}
use Rattle.s2cell.proofs.CellLemmas.{own_place}
use Rattle.s2list.specs.Union.{has_leaf, IsNormalForm}
use Rattle.s2list.proofs.Normal.{normal_form_same, one_normal_form}
use Rattle.s2list.proofs.Picking.{picked_none, picked_normal}
use Rattle.s2cover.specs.Working.Descent.{depth_of, form_in, IsAligned}
use Rattle.s2cover.proofs.Formed.{formed}

pub and_of : (a s : Bool) → (s ≡ true → a ≡ true) → (a && s) ≡ s
and_of true s h = refl
and_of false true h = absurd (both_ways false refl (h refl))
and_of false false h = refl

-- a face's cells are the normal form of an aligned set that lies in it
pub record OneFace (S : ℕ → Bool) (u : List ℕ) : Type 0 where
  pub normal : IsNormalForm S u
  pub leaves : (x : ℕ) → has_leaf u x ≡ S x

one_face : (S : ℕ → Bool) (g : ℕ) {c : ℕ} → IsAligned S g →
    g ≤ 30 → IsCell c → level_of c ≡ 0 → ((x : ℕ) → S x ≡ true → covers c x ≡ true) → OneFace S (form_in S g c)
one_face S g {c} al hg i lv within =
    let r = formed S g (depth_of c - g) al i (omega arith) (λ d h. absurd (omega arith)) in
    let same : (x : ℕ) → has_leaf (form_in S g c) x ≡ S x = λ x. r.leaves x ∙ and_of (covers c x) (S x) (within x) in
    record {
      normal = picked_normal S (form_in S g c) (record { chain = r.chain; greatest = r.greatest }) same;
      leaves = same;
    }

-- the leaves of a rectangle lie in its face
pub on_face : (r : Rect) {c : ℕ} (f x : ℕ) →
    IsCell c → level_of c ≡ 0 → face_of c ≡ f → f ≡ r.face → rect_set r x ≡ true → covers c x ≡ true
unfolding face_of
on_face r {c} f x i lv ef er t =
    let w = (in_rect_from r x t).on in
    let one : place_of c / 4 ^ level_of c ≡ place_of c = ap (λ z. place_of c / 4 ^ z) lv ∙ div-one (place_of c) in
    let d : x / 4 ^ (30 - level_of c) ≡ x / 4 ^ 30 = ap (λ z. x / 4 ^ (30 - z)) lv in
    covers_block c (level_of c) (place_of c) x (own_place c i) (d ∙ w ∙ sym er ∙ sym ef ∙ one)

-- the greatest cells of a rectangle in its face
pub rect_face : (r : Rect) (g : ℕ) {c f : ℕ} → IsAligned (rect_set r) g → g ≤ 30 → IsCell c → level_of c ≡ 0 →
    face_of c ≡ f → f ≡ r.face → OneFace (rect_set r) (form_in (rect_set r) g c)
rect_face r g {f} al hg i lv ef er = one_face (rect_set r) g al hg i lv (λ x. on_face r f x i lv ef er)

pub too_long : {S : ℕ → Bool} {f : List ℕ} (len max : ℕ) {u : List ℕ} →
    IsNormalForm S f → len ≡ 0 → max < len + length f → IsNormalForm S u → max < length u
too_long {S} {f} len max {u} n z h v = let e = ap length (one_normal_form S f u n v) in omega arith

pub many_same : {T E : Type 0} (r : Result T E) (many : E) (max : ℕ) (S R : ℕ → Bool) → ((x : ℕ) → S x ≡ R x) →
    IfErr r (λ fault. fault ≡ many → (u : List ℕ) → IsNormalForm S u → max < length u)
    → IfErr r (λ fault. fault ≡ many → (u : List ℕ) → IsNormalForm R u → max < length u)
many_same r many max S R e h =
    IfErr-weaker r (λ fault. fault ≡ many → (u : List ℕ) → IsNormalForm S u → max < length u)
    (λ fault. fault ≡ many → (u : List ℕ) → IsNormalForm R u → max < length u)
    (λ y p same u n. p same u (normal_form_same R S u (λ x. sym (e x)) n)) h

pub none_normal : (T : ℕ → Bool) (u : List ℕ) → ((x : ℕ) → T x ≡ false) → u ≡ [] → IsNormalForm T u
none_normal T u h e = rw e (picked_normal T [] (picked_none T) (λ x. sym (h x)))
