-- The cells that a descent finds are the greatest in the set, follow each other, and have its leaves.
use Rattle.std.proofs.Common.{◌≡◌, ℕ, suc, zero, ◌+◌, ◌-◌, ◌*◌, ◌/◌, ◌^◌, ◌<◌, ◌≤◌, Bool, true}
use Rattle.std.proofs.Common.{false, ◌&&◌, ◌||◌, nat_lt, List, [], ◌∷◌, ◌++◌, length, All, AllPairs, refl, sym}
use Rattle.std.proofs.Common.{◌∙◌, ap, arith, subst, ⊎_elim, length-append}
use Rattle.std.proofs.lemmas.Bool.{and_right, lt-ltb, cases_Bool, both_ways, cond-false, false_from_ne_true, and_parts}
use Rattle.std.proofs.lemmas.Bool.Decides.{nat_tests}
use Rattle.std.proofs.lemmas.List.Elements.{All-append}
use Rattle.std.proofs.lemmas.List.Kept.{AllPairs-cons}
use Rattle.std.proofs.lemmas.List.Folds.{list_any-append}
use Rattle.std.proofs.Math.Nat.{div-one}
use Rattle.s2cell.specs.Cell.{IsCellAt, IsCell, level_of, place_of, size_of, first_leaf, covers, face_of, child_of}
use Rattle.s2cell.specs.Cell.{parent_of}
use Rattle.s2cell.proofs.CellLemmas.{cell_leaves, level_of_cell, place_of_cell, first_leaf_of_cell, size_of_cell}
use Rattle.s2cell.proofs.Calls.{child_leaves, shallow}
use Rattle.s2cell.proofs.Leaves.{covers_from}
use Rattle.s2list.specs.Union.{has_leaf, between, LiesIn, IsGreatestIn, IsNormalForm}
use Rattle.s2list.specs.Packed.{EndsBefore}
use Rattle.s2list.proofs.Normal.{parent_of_child, normal_form_same, one_normal_form}
use Rattle.s2list.proofs.Tiling.{none_between}
use Rattle.s2list.proofs.Picking.{picked_normal}
use Rattle.s2cover.specs.Coverings.{filled, touched, outer_set, inner_set}
use Rattle.s2cover.specs.Working.Descent.{blocks, covering_set, form_faces, form_in, form, joined, cell_at, depth_of}
use Rattle.s2cover.specs.Working.Descent.{IsAligned}
use Rattle.s2cell.specs.declared.TheConstants.{LEAVES}
use Rattle.s2cover.proofs.Runs.{filled_each, filled_from, block_here}
use Rattle.s2cover.proofs.Forms.{form_whole, joined_more, joined_grows}
use Rattle.s2cover.proofs.Visits.{covers_at, leaf_at, id_of, child_at}

pub all_pairs_append : (R : ℕ → ℕ → Type 0) (xs ys : List ℕ) → AllPairs R xs → AllPairs R ys →
    All (λ x. All (R x) ys) xs → AllPairs R (xs ++ ys)
all_pairs_append R [] ys a b h = b
all_pairs_append R (x ∷ xs) ys a b h =
    let first : All (R x) xs = λ k d l. a 0 (suc k) d (omega arith) (omega arith) in
    let rest : AllPairs R xs = λ i j d l m. a (suc i) (suc j) d (omega arith) (omega arith) in
    let later : All (λ z. All (R z) ys) xs = λ k d l. h (suc k) d (omega arith) in
    AllPairs-cons R x (xs ++ ys) (All-append (R x) xs ys first (h 0 x (omega arith)))
    (all_pairs_append R xs ys rest b later)

-- the cells of `u` are greatest in `S`, each ending before the next, and have its leaves from `lo` to before `hi`
pub record Run (S : ℕ → Bool) (lo hi : ℕ) (u : List ℕ) : Type 0 where
  pub greatest : All (IsGreatestIn S) u
  pub chain : AllPairs EndsBefore u
  pub low : All (λ c. lo ≤ first_leaf c) u
  pub high : All (λ c. first_leaf c + size_of c ≤ hi) u
  pub leaves : (x : ℕ) → has_leaf u x ≡ (between lo hi x && S x)

pub run_none : (S : ℕ → Bool) (lo : ℕ) → Run S lo lo []
run_none S lo = record {
  greatest = λ k d h. absurd (omega arith);
  chain = λ i j d h l. absurd (omega arith);
  low = λ k d h. absurd (omega arith);
  high = λ k d h. absurd (omega arith);
  leaves = λ x. sym (ap (λ b. b && S x) (none_between lo x));
}

between_join : (lo mid hi x : ℕ) → lo ≤ mid → mid ≤ hi → between lo hi x ≡ (between lo mid x || between mid hi x)
between_join lo mid hi x a b = grind (arith, nat_tests)

pub or_and : (a b s : Bool) → ((a && s) || (b && s)) ≡ ((a || b) && s)
or_and true true true = refl
or_and true true false = refl
or_and true false true = refl
or_and true false false = refl
or_and false b s = refl

pub run_join : {S : ℕ → Bool} {lo mid hi : ℕ} {u v : List ℕ} →
    lo ≤ mid → mid ≤ hi → Run S lo mid u → Run S mid hi v → Run S lo hi (u ++ v)
run_join {S} {lo} {mid} {hi} {u} {v} a b r s = record {
  greatest = All-append (IsGreatestIn S) u v r.greatest s.greatest;
  chain = all_pairs_append EndsBefore u v r.chain s.chain (λ k d h. λ i e l. let x = r.high k d h in
      let y = s.low i e l in omega arith);
  low = All-append (λ c. lo ≤ first_leaf c) u v r.low (λ k d h. let y = s.low k d h in omega arith);
  high = All-append (λ c. first_leaf c + size_of c ≤ hi) u v (λ k d h. let y = r.high k d h in omega arith) s.high;
  leaves = λ x. list_any-append (λ c. covers c x) u v
      ∙ ap (λ z. z || has_leaf v x) (r.leaves x) ∙ ap (λ z. (between lo mid x && S x) || z) (s.leaves x)
      ∙ or_and (between lo mid x) (between mid hi x) (S x) ∙ ap (λ z. z && S x) (sym (between_join lo mid hi x a b));
}

pub joined_run : (S : ℕ → Bool) (f : ℕ → List ℕ) (lo s n : ℕ) →
    ((p : ℕ) → p < n → Run S (lo + p * s) (lo + (p + 1) * s) (f p)) → Run S lo (lo + n * s) (joined f n)
unfolding joined
joined_run S f lo s zero h = let e : lo ≡ lo + 0 * s = omega arith in subst (λ (z : ℕ). Run S lo z []) e (run_none S lo)
joined_run S f lo s (suc n) h =
    let e : lo + (n + 1) * s ≡ lo + suc n * s = omega arith in
    let r : Run S lo (lo + n * s) (joined f n) = joined_run S f lo s n (λ p l. h p (omega arith)) in
    run_join (omega arith) (omega arith) r (subst (λ (z : ℕ). Run S (lo + n * s) z (f n)) e (h n (omega arith)))

-- ---- one cell

and_whole : (a s : Bool) → (a ≡ true → s ≡ true) → (a || false) ≡ (a && s)
and_whole true s h = sym (h refl)
and_whole false s h = refl

and_none : (a s : Bool) → (a ≡ true → s ≡ false) → false ≡ (a && s)
and_none true s h = sym (h refl)
and_none false s h = refl

one_all : (P : ℕ → Type 0) (c : ℕ) → P c → All P (c ∷ [])
one_all P c p zero d h = p
one_all P c p (suc k) d h = absurd (omega arith)

-- the whole cell is in the set, and its parent isn't
whole_run : (S : ℕ → Bool) {c : ℕ} → IsCell c → LiesIn S c → (0 < level_of
    c → LiesIn S (parent_of c (level_of c - 1)) → ⊥) → Run S (first_leaf c) (first_leaf c + size_of c) (c ∷ [])
whole_run S {c} i inside top = record {
  greatest = one_all (IsGreatestIn S) c (record { cell = i; inside = inside; greatest = top });
  chain = λ a b d h l. absurd (omega arith);
  low = one_all (λ d. first_leaf c ≤ first_leaf d) c (omega arith);
  high = one_all (λ d. first_leaf d + size_of d ≤ first_leaf c + size_of c) c (omega arith);
  leaves = λ x. and_whole (covers c x) (S x) (inside x);
}

pub filled_lies : (S : ℕ → Bool) (c : ℕ) → filled S (place_of c * 4 ^ depth_of c) (4 ^ depth_of c) ≡ true → LiesIn S c
filled_lies S c t x h = let l = leaf_at c x h in
    filled_each S (place_of c * 4 ^ depth_of c) (4 ^ depth_of c) t x l.0 l.1

pub lies_filled : (S : ℕ → Bool) (c : ℕ) → LiesIn S c → filled S (place_of c * 4 ^ depth_of c) (4 ^ depth_of c) ≡ true
lies_filled S c h = filled_from S (place_of c * 4 ^ depth_of c) (4 ^ depth_of c) (λ x a b. h x (covers_at c x a b))

-- a cell of the grain's depth has all leaves of the set, or none
grain_none : (S : ℕ → Bool) (g c : ℕ) → IsAligned S g → depth_of c ≡ g →
    filled S (place_of c * 4 ^ depth_of c) (4 ^ depth_of c) ≡ false → (x : ℕ) → covers c x ≡ true → S x ≡ false
grain_none S g c al e f x h =
    let m = place_of c in
    let d = depth_of c in
    let l = leaf_at c x h in
    false_from_ne_true (S x) (λ t. both_ways (filled S (m * 4 ^ d) (4 ^ d)) f
    (filled_from S (m * 4 ^ d) (4 ^ d) (λ y a b.
    let same : y / 4 ^ g ≡ x / 4 ^ g = subst (λ (z : ℕ). y / 4 ^ z ≡ x / 4 ^ z) e (block_here y m d a b
    ∙ sym (block_here x m d l.0 l.1)) in
    al y x same ∙ t)))

nothing_run : (S : ℕ → Bool) (c : ℕ) → ((x : ℕ) → covers c x ≡ true → S x ≡ false) →
    Run S (first_leaf c) (first_leaf c + size_of c) []
nothing_run S c h = record {
  greatest = λ k d l. absurd (omega arith);
  chain = λ a b d m l. absurd (omega arith);
  low = λ k d l. absurd (omega arith);
  high = λ k d l. absurd (omega arith);
  leaves = λ x. and_none (covers c x) (S x) (h x);
}

-- a cell that the set holds, as a list
whole_form : (S : ℕ → Bool) (g e : ℕ) {c : ℕ} → IsCell c → depth_of c ≡ g + e →
    filled S (place_of c * 4 ^ depth_of c) (4 ^ depth_of c) ≡ true → form S g e (place_of c) ≡ c ∷ []
whole_form S g e {c} i d t =
    form_whole S g e (place_of c) (subst (λ (z : ℕ). filled S (place_of c * 4 ^ z) (4 ^ z) ≡ true) d t)
    ∙ ap (λ z. z ∷ []) (ap (λ z. cell_at z (place_of c)) (sym d) ∙ id_of i)

pub formed : (S : ℕ → Bool) (g e : ℕ) {c : ℕ} → IsAligned S g → IsCell c → depth_of c ≡ g + e → (0 < level_of c → LiesIn
    S (parent_of c (level_of c - 1)) → ⊥) → Run S (first_leaf c) (first_leaf c + size_of c) (form S g e (place_of c))
unfolding form
formed S g zero {c} al i d top =
    let m = place_of c in
    let dg : depth_of c ≡ g = omega arith in
    ⊎_elim
    (λ (t : filled S (m * 4 ^ depth_of c) (4 ^ depth_of c) ≡ true). subst (λ (u : List ℕ). Run S
    (first_leaf c) (first_leaf c + size_of c) u) (sym (whole_form S g 0 i d t)) (whole_run S i (filled_lies S c t) top))
    (λ (f : filled S (m * 4 ^ depth_of c) (4 ^ depth_of c) ≡ false).
    let none : form S g 0 m ≡ [] = cond-false (filled S (m * 4 ^ g) (4 ^ g)) (cell_at g m ∷ []) []
    (subst (λ (z : ℕ). filled S (m * 4 ^ z) (4 ^ z) ≡ false) dg f) in
    subst (λ (u : List ℕ). Run S (first_leaf c) (first_leaf c + size_of c) u) (sym none)
    (nothing_run S c (grain_none S g c al dg f)))
    (cases_Bool (filled S (m * 4 ^ depth_of c) (4 ^ depth_of c)))
formed S g (suc e) {c} al i d top =
    let m = place_of c in
    ⊎_elim
    (λ (t : filled S (m * 4 ^ depth_of c) (4 ^ depth_of c) ≡ true). subst (λ (u : List ℕ). Run S (first_leaf c)
    (first_leaf c + size_of c) u) (sym (whole_form S g (suc e) i d t)) (whole_run S i (filled_lies S c t) top))
    (λ (f : filled S (m * 4 ^ depth_of c) (4 ^ depth_of c) ≡ false).
    let f2 : filled S (m * 4 ^ (g + suc e)) (4 ^ (g + suc e)) ≡ false =
    subst (λ (z : ℕ). filled S (m * 4 ^ z) (4 ^ z) ≡ false) d f in
    let kids : form S g (suc e) m ≡ joined (λ p. form S g e (4 * m + p)) 4 =
    cond-false (filled S (m * 4 ^ (g + suc e)) (4 ^ (g + suc e))) (cell_at (g + suc e) m ∷ [])
    (joined (λ p. form S g e (4 * m + p)) 4) f2 in
    let sh = shallow c i in
    let lv : level_of c < 30 = omega arith in
    let s = size_of (child_of c 0) in
    let q0 = (child_leaves c 0 i lv (omega arith)).size in
    let one : (p : ℕ) → p < 4 → Run S (first_leaf c + p * s) (first_leaf c + (p + 1) * s)
    (form S g e (4 * m + p)) = λ p l.
    let k = child_at p i lv l in
    let dk = k.depth in
    let w = child_leaves c p i lv l in
    let ws = w.size in
    let wf = w.first in
    let same : size_of (child_of c p) ≡ s = omega arith in
    let start : first_leaf (child_of c p) ≡ first_leaf c + p * s = wf ∙ ap (λ z. first_leaf c + p * z) same in
    let end : first_leaf (child_of c p) + size_of (child_of c p) ≡ first_leaf c + (p + 1) * s = omega arith in
    let r = formed S g e al k.cell (omega arith) (λ z h. both_ways (filled S (m * 4 ^ depth_of c) (4 ^ depth_of c))
    f (lies_filled S c (subst (λ (y : ℕ). LiesIn S y) (parent_of_child c p i lv l) h))) in
    subst (λ (z : ℕ). Run S (first_leaf c + p * s) (first_leaf c + (p + 1) * s) (form S g e z)) k.place
    (subst (λ (z : ℕ). Run S (first_leaf c + p * s) z (form S g e (place_of (child_of c p)))) end (subst (λ (z : ℕ). Run
    S z (first_leaf (child_of c p) + size_of (child_of c p)) (form S g e (place_of (child_of c p)))) start r)) in
    let end : first_leaf c + 4 * s ≡ first_leaf c + size_of c = omega arith in
    subst (λ (u : List ℕ). Run S (first_leaf c) (first_leaf c + size_of c) u) (sym kids)
    (subst (λ (z : ℕ). Run S (first_leaf c) z (joined (λ p. form S g e (4 * m + p)) 4)) end
    (joined_run S (λ p. form S g e (4 * m + p)) (first_leaf c) s 4 one)))
    (cases_Bool (filled S (m * 4 ^ depth_of c) (4 ^ depth_of c)))

-- ---- all faces

-- the set without the numbers that are no leaves
abbrev pub Leafy : (ℕ → Bool) → ℕ → Bool
Leafy S x = nat_lt x LEAVES && S x

greatest_leafy : {S : ℕ → Bool} {c : ℕ} → IsGreatestIn S c → IsGreatestIn (Leafy S) c
greatest_leafy {S} {c} w =
    let l = cell_leaves c w.cell in
    let end = l.within in
    record {
      cell = w.cell;
      inside = λ x h. let r = covers_from c x h in
          ap (λ b. b && S x) (lt-ltb x LEAVES (let y = r.1 in omega arith)) ∙ w.inside x h;
      greatest = λ d h. w.greatest d (λ x v. (and_parts (nat_lt x LEAVES) (S x) (h x v)).1);
    }

between_all : (x : ℕ) → between 0 LEAVES x ≡ nat_lt x LEAVES
between_all x = grind (arith, nat_tests)

-- a run over all leaves is the normal form
pub run_normal : {S : ℕ → Bool} (T : ℕ → Bool) {u : List ℕ} →
    Run S 0 LEAVES u → ((x : ℕ) → T x ≡ Leafy S x) → IsNormalForm T u
run_normal {S} T {u} r same =
    normal_form_same (Leafy S) T u (λ x. sym (same x))
    (picked_normal (Leafy S) u (record { chain = r.chain; greatest = λ k d h. greatest_leafy (r.greatest k d h) })
    (λ x. r.leaves x ∙ ap (λ b. b && S x) (between_all x)))

pub run_leaves : {S : ℕ → Bool} (T : ℕ → Bool) {u : List ℕ} →
    Run S 0 LEAVES u → ((x : ℕ) → T x ≡ Leafy S x) → (x : ℕ) → has_leaf u x ≡ T x
run_leaves {S} T r same x = r.leaves x ∙ ap (λ b. b && S x) (between_all x) ∙ sym (same x)

face_cell : (f : ℕ) → f < 6 → IsCellAt 0 f (cell_at 30 f)
face_cell f h = record { level = omega arith; place = omega arith; id = refl }

-- the cells of one face
pub face_run : (S : ℕ → Bool) (g f : ℕ) → IsAligned S g → g ≤ 30 → f < 6 →
    Run S (f * 4 ^ 30) ((f + 1) * 4 ^ 30) (form S g (30 - g) f)
face_run S g f al hg hf =
    let c = cell_at 30 f in
    let at = face_cell f hf in
    let lv : level_of c ≡ 0 = level_of_cell 0 f c at in
    let pl : place_of c ≡ f = place_of_cell 0 f c at in
    let lo : first_leaf c ≡ f * 4 ^ 30 = first_leaf_of_cell 0 f c at in
    let sz : size_of c ≡ 4 ^ 30 = size_of_cell 0 f c at in
    let hi : first_leaf c + size_of c ≡ (f + 1) * 4 ^ 30 = omega arith in
    let r = formed S g (30 - g) al (0, f, at) (omega arith) (λ d h. absurd (omega arith)) in
    subst (λ (z : ℕ). Run S (f * 4 ^ 30) ((f + 1) * 4 ^ 30) (form S g (30 - g) z)) pl
    (subst (λ (z : ℕ). Run S (f * 4 ^ 30) z (form S g (30 - g) (place_of c))) hi
    (subst (λ (z : ℕ). Run S z (first_leaf c + size_of c) (form S g (30 - g) (place_of c))) lo r))

pub faces_run : (S : ℕ → Bool) (g : ℕ) → IsAligned S g → g ≤ 30 → Run S 0 LEAVES (form_faces S g 6)
faces_run S g al hg =
    joined_run S (λ f. form S g (30 - g) f) 0 (4 ^ 30) 6 (λ f h.
    let lo : f * 4 ^ 30 ≡ 0 + f * 4 ^ 30 = omega arith in
    let hi : (f + 1) * 4 ^ 30 ≡ 0 + (f + 1) * 4 ^ 30 = omega arith in
    subst (λ (z : ℕ). Run S (0 + f * 4 ^ 30) z (form S g (30 - g) f)) hi
    (subst (λ (z : ℕ). Run S z ((f + 1) * 4 ^ 30) (form S g (30 - g) f)) lo (face_run S g f al hg h)))

-- ---- any set of leaves

leaf_aligned : (S : ℕ → Bool) → IsAligned S 0
leaf_aligned S x y e = let same : x ≡ y = omega arith in ap S same

leafy_itself : (S : ℕ → Bool) (x : ℕ) (b : Bool) → S x ≡ b → (S x ≡ true → x < LEAVES) → S x ≡ Leafy S x
leafy_itself S x true e h = sym (ap (λ b. b && S x) (lt-ltb x LEAVES (h e)))
leafy_itself S x false e h = e ∙ sym (ap (λ b. nat_lt x LEAVES && b) e ∙ and_right (nat_lt x LEAVES) false refl)

-- the greatest cells inside a set of leaves, down to the leaves, are its normal form
pub set_normal : (S : ℕ → Bool) → ((x : ℕ) → S x ≡ true → x < LEAVES) → IsNormalForm S (form_faces S 0 6)
set_normal S h = run_normal S (faces_run S 0 (leaf_aligned S) (omega arith))
    (λ x. leafy_itself S x (S x) refl (h x))

-- ---- coverings

pub blocks_aligned : (whole : Bool) (R : ℕ → Bool) (g : ℕ) → IsAligned (blocks whole R g) g
blocks_aligned true R g x y e = ap (λ z. touched R (z * 4 ^ g) (4 ^ g)) e
blocks_aligned false R g x y e = ap (λ z. filled R (z * 4 ^ g) (4 ^ g)) e

pub covering_leafy : (whole : Bool) (R : ℕ → Bool) (k x : ℕ) →
    covering_set whole R k x ≡ Leafy (blocks whole R (30 - k)) x
unfolding outer_set inner_set
covering_leafy true R k x = refl
covering_leafy false R k x = refl

-- the finished list is the normal form of the covering
pub covering_normal : (whole : Bool) (R : ℕ → Bool) (k : ℕ) →
    IsNormalForm (covering_set whole R k) (form_faces (blocks whole R (30 - k)) (30 - k) 6)
covering_normal whole R k =
    run_normal (covering_set whole R k)
    (faces_run (blocks whole R (30 - k)) (30 - k) (blocks_aligned whole R (30 - k)) (omega arith))
    (covering_leafy whole R k)

pub covering_leaves : (whole : Bool) (R : ℕ → Bool) (k x : ℕ) →
    has_leaf (form_faces (blocks whole R (30 - k)) (30 - k) 6) x ≡ covering_set whole R k x
covering_leaves whole R k =
    run_leaves (covering_set whole R k)
    (faces_run (blocks whole R (30 - k)) (30 - k) (blocks_aligned whole R (30 - k)) (omega arith))
    (covering_leafy whole R k)

-- the list after the first `n` faces
pub record Found (S : ℕ → Bool) (g n : ℕ) (list : List ℕ) (len max : ℕ) : Type 0 where
  pub cells : list ≡ form_faces S g n
  pub few : len ≤ max

pub found_none : (S : ℕ → Bool) (g : ℕ) (list : List ℕ) (len max : ℕ) → list ≡ [] → len ≡ 0 → Found S g 0 list len max
unfolding joined
found_none S g list len max e l = record { cells = e; few = omega arith }

-- the cells in a face, as the descent into it states them
pub form_of_face : (S : ℕ → Bool) (g c f : ℕ) → level_of c ≡ 0 → face_of c ≡ f → form_in S g c ≡ form S g (30 - g) f
unfolding face_of
form_of_face S g c f lv ef =
    let place : place_of c ≡ f = sym (div-one (place_of c)) ∙ ap (λ z. place_of c / 4 ^ z) (sym lv) ∙ ef in
    ap (λ z. form S g (30 - z - g) (place_of c)) lv ∙ ap (form S g (30 - g)) place

pub found_next : (S : ℕ → Bool) (g n c : ℕ) (list new : List ℕ) (len next max : ℕ) → level_of c ≡ 0 →
    face_of c ≡ n → Found S g n list len max → new ≡ list ++ form_in S g c → next ≤ max → Found S g (n + 1) new next max
found_next S g n c list new len next max lv ef f is few = record {
  cells = is ∙ ap (λ z. z ++ form_in S g c) f.cells ∙ ap (λ z. form_faces S g n ++ z) (form_of_face S g c n lv ef)
      ∙ sym (joined_more (λ face. form S g (30 - g) face) n);
  few = few;
}

-- too many cells in the first faces are too many in all of them
pub found_many : (whole : Bool) (R : ℕ → Bool) (k n : ℕ) (u : List ℕ) (max : ℕ) → n ≤ 6 → max < length
    (form_faces (blocks whole R (30 - k)) (30 - k) n) → IsNormalForm (covering_set whole R k) u → max < length u
found_many whole R k n u max h m v =
    let S = blocks whole R (30 - k) in
    let e = one_normal_form (covering_set whole R k) (form_faces S (30 - k) 6) u (covering_normal whole R k) v in
    let grow = joined_grows (λ face. form S (30 - k) (30 - (30 - k)) face) n 6 h in
    let len = ap length e in
    omega arith

pub found_stops : (S : ℕ → Bool) (g n c : ℕ) (list : List ℕ) (len max : ℕ) → level_of c ≡ 0 → face_of c ≡ n → len ≡
    length list → Found S g n list len max → max < len + length (form_in S g c) → max < length (form_faces S g (n + 1))
found_stops S g n c list len max lv ef el f m =
    let more = ap length (joined_more (λ face. form S g (30 - g) face) n)
    ∙ length-append (form_faces S g n) (form S g (30 - g) n) in
    let same = ap length (form_of_face S g c n lv ef) in
    let cells = ap length f.cells in
    omega arith

-- a list that is too long after a face
pub found_long : (whole : Bool) (R : ℕ → Bool) (k n c : ℕ) (list new : List ℕ) (len next max : ℕ) (u : List ℕ) → n < 6 →
    level_of c ≡ 0 → face_of c ≡ n → next ≡ length new → Found (blocks whole R (30 - k)) (30 - k) n list len max →
    new ≡ list ++ form_in (blocks whole R (30 - k)) (30 - k) c →
    max < next → IsNormalForm (covering_set whole R k) u → max < length u
found_long whole R k n c list new len next max u h lv ef en f is many v =
    let S = blocks whole R (30 - k) in
    let cells : new ≡ form_faces S (30 - k) (n + 1) =
    (found_next S (30 - k) n c list new len 0 max lv ef f is (omega arith)).cells in
    let same = ap length cells in
    found_many whole R k (n + 1) u max (omega arith) (omega arith) v
