-- The steps of the visit of a cell.
use Rattle.std.proofs.Common.{◌≡◌, ℕ, suc, ◌+◌, ◌-◌, ◌*◌, ◌^◌, ◌<◌, ◌≤◌, Bool, true, false, ◌&&◌}
use Rattle.std.proofs.Common.{List, [], ◌∷◌, ◌++◌, length, take, refl, sym, ◌∙◌, ap, arith, subst, ◌⊎◌, inl, inr}
use Rattle.std.proofs.Common.{⊎_elim, length-append, append_assoc, append-nil, Result, IfOk, IfErr}
use Rattle.std.proofs.lemmas.Bool.{and_left, and_right, both_ways, false_from_ne_true, true_from_ne_false}
use Rattle.std.proofs.lemmas.Result.{IfOk-weaker, IfErr-weaker}
use Rattle.std.proofs.Math.Seq.{take-append_seam}
use Rattle.std.proofs.Math.Nat.{pow-suc, mul-le-mul_right}
use Rattle.s2cover.specs.Coverings.{filled, touched}
use Rattle.s2cover.specs.Working.Descent.{blocks, form, joined, cell_at, depth_of, set_for}
use Rattle.s2cell.specs.Cell.{IsCell, level_of, place_of, size_of, first_leaf, covers, child_of}
use Rattle.s2cell.proofs.CellLemmas.{four_pos, own_place, level_of_cell, place_of_cell}
use Rattle.s2cell.proofs.Calls.{IsCellAt-child_of, IsCell-child_of}
use Rattle.s2cell.proofs.Leaves.{covers_there, covers_from}
use Rattle.s2cover.proofs.Runs.{filled_add, filled_each, filled_from, not_filled, cover_all, cover_none, outer_here}
use Rattle.s2cover.proofs.Runs.{inner_here, touched_none}
use Rattle.s2cover.proofs.Forms.{form_whole_at, form_none_at, form_children, filled_more, joined_more, joined_grows}
use Rattle.s2cover.proofs.Forms.{Visited}

-- the set holds the whole cell
pub record Whole (S : ℕ → Bool) (g d m : ℕ) : Type 0 where
  pub holds : filled S (m * 4 ^ d) (4 ^ d) ≡ true
  pub cells : form S g (d - g) m ≡ cell_at d m ∷ []

-- the set holds no leaf of the cell
pub record Nothing (S : ℕ → Bool) (g d m : ℕ) : Type 0 where
  pub holds : filled S (m * 4 ^ d) (4 ^ d) ≡ false
  pub cells : form S g (d - g) m ≡ []

pub whole_from : (S : ℕ → Bool) (g d m : ℕ) → g ≤ d →
    ((x : ℕ) → m * 4 ^ d ≤ x → x < m * 4 ^ d + 4 ^ d → S x ≡ true) → Whole S g d m
whole_from S g d m hg h = let w = filled_from S (m * 4 ^ d) (4 ^ d) h in
    record { holds = w; cells = form_whole_at S g d m hg w }

pub nothing_from : (S : ℕ → Bool) (g d m : ℕ) → g ≤ d →
    ((x : ℕ) → m * 4 ^ d ≤ x → x < m * 4 ^ d + 4 ^ d → S x ≡ false) → Nothing S g d m
nothing_from S g d m hg h = record {
  holds = not_filled S (m * 4 ^ d) (4 ^ d) (four_pos d) h;
  cells = form_none_at S g d m hg h;
}

-- a leaf of a cell, by the cell's depth and place
pub covers_at : (c x : ℕ) → place_of c * 4 ^ depth_of c ≤ x → x < place_of c * 4 ^ depth_of c + 4 ^ depth_of c →
    covers c x ≡ true
unfolding first_leaf size_of
covers_at c x a b = covers_there c x a b

pub leaf_at : (c x : ℕ) → covers c x ≡ true → (place_of c * 4 ^ depth_of c ≤ x)
    × (x < place_of c * 4 ^ depth_of c + 4 ^ depth_of c)
unfolding first_leaf size_of
leaf_at c x h = covers_from c x h

-- the identifier of a cell, by its depth and place
pub id_of : {c : ℕ} → IsCell c → cell_at (depth_of c) (place_of c) ≡ c
id_of {c} i = sym (own_place c i).id

pub in_whole : (whole : Bool) (R : ℕ → Bool) (g c : ℕ) → g ≤ depth_of c →
    ((x : ℕ) → covers c x ≡ true → R x ≡ true) → Whole (blocks whole R g) g (depth_of c) (place_of c)
in_whole whole R g c hg h = whole_from (blocks whole R g) g (depth_of c) (place_of c) hg
    (cover_all whole R g (depth_of c) (place_of c) hg (λ x a b. h x (covers_at c x a b)))

pub out_nothing : (whole : Bool) (R : ℕ → Bool) (g c : ℕ) → g ≤ depth_of c →
    ((x : ℕ) → covers c x ≡ true → R x ≡ false) → Nothing (blocks whole R g) g (depth_of c) (place_of c)
out_nothing whole R g c hg h = nothing_from (blocks whole R g) g (depth_of c) (place_of c) hg
    (cover_none whole R g (depth_of c) (place_of c) hg (λ x a b. h x (covers_at c x a b)))

-- a cell of the grain's depth that crosses the region
pub cross_whole : (whole : Bool) (R : ℕ → Bool) (g c : ℕ) → whole ≡ true → depth_of c ≡ g →
    (((x : ℕ) → covers c x ≡ true → R x ≡ false) → ⊥) → Whole (blocks whole R g) g (depth_of c) (place_of c)
cross_whole whole R g c b e h =
    let d = depth_of c in
    let m = place_of c in
    let t : touched R (m * 4 ^ d) (4 ^ d) ≡ true =
    true_from_ne_false (touched R (m * 4 ^ d) (4 ^ d))
    (λ f. h (λ x w. let l = leaf_at c x w in touched_none R (m * 4 ^ d) (4 ^ d) f x l.0 l.1)) in
    subst (λ (w : Bool). Whole (blocks w R g) g d m) (sym b) (subst (λ (z : ℕ). Whole (blocks true R z) z d m)
    e (whole_from (blocks true R d) d d m (omega arith) (outer_here R d m t)))

pub cross_nothing : (whole : Bool) (R : ℕ → Bool) (g c : ℕ) → whole ≡ false → depth_of c ≡ g →
    (((x : ℕ) → covers c x ≡ true → R x ≡ true) → ⊥) → Nothing (blocks whole R g) g (depth_of c) (place_of c)
cross_nothing whole R g c b e h =
    let d = depth_of c in
    let m = place_of c in
    let t : filled R (m * 4 ^ d) (4 ^ d) ≡ false =
    false_from_ne_true (filled R (m * 4 ^ d) (4 ^ d))
    (λ f. h (λ x w. let l = leaf_at c x w in filled_each R (m * 4 ^ d) (4 ^ d) f x l.0 l.1)) in
    subst (λ (w : Bool). Nothing (blocks w R g) g d m) (sym b) (subst (λ (z : ℕ). Nothing (blocks false R z) z d m)
    e (nothing_from (blocks false R d) d d m (omega arith) (inner_here R d m t)))

-- ---- the two sets of a quadrant

-- what is true of both sets is true of the one that the covering is made of
pub set_for_all : (P : (ℕ → Bool) → Type 0) (whole : Bool) {outer inner : ℕ → Bool} → P outer → P inner →
    P (set_for whole outer inner)
set_for_all P true o i = o
set_for_all P false o i = i

pub set_for_outer : {whole : Bool} (outer inner : ℕ → Bool) → whole ≡ true → set_for whole outer inner ≡ outer
set_for_outer outer inner e = ap (λ w. set_for w outer inner) e

pub set_for_inner : {whole : Bool} (outer inner : ℕ → Bool) → whole ≡ false → set_for whole outer inner ≡ inner
set_for_inner outer inner e = ap (λ w. set_for w outer inner) e

-- a child's sets are its parent's
pub same_set : (whole : Bool) {outer inner outer2 inner2 : ℕ → Bool} → outer2 ≡ outer → inner2 ≡ inner →
    set_for whole outer2 inner2 ≡ set_for whole outer inner
same_set whole {outer} {inner2 = inner2} e f = ap (λ z. set_for whole z inner2) e ∙ ap (set_for whole outer) f

-- ---- what a call's outcome says then

pub same_list : {E : Type 0} (r : Result Bool E) (P : Bool → Type 0) (xs f : List ℕ) → f ≡ [] → IfOk r P →
    IfOk r (λ _. xs ≡ xs ++ f)
same_list r P xs f e h = IfOk-weaker r P (λ _. xs ≡ xs ++ f) (λ x p. sym (ap (λ z. xs ++ z) e ∙ append-nil xs)) h

pub one_more : {E : Type 0} (r : Result Bool E) (xs ys f : List ℕ) (c : ℕ) → f ≡ c ∷ [] →
    IfOk r (λ full. (full ≡ true) × (ys ≡ xs ++ c ∷ [])) → IfOk r (λ _. ys ≡ xs ++ f)
one_more r xs ys f c e h = IfOk-weaker r (λ full. (full ≡ true) × (ys ≡ xs ++ c ∷ [])) (λ _. ys ≡ xs ++ f)
    (λ x p. p.1 ∙ ap (λ z. xs ++ z) (sym e)) h

pub is_full : {E : Type 0} (r : Result Bool E) (P : Type 0) (a b : Bool) → b ≡ a →
    IfOk r (λ full. (full ≡ a) × P) → IfOk r (λ full. full ≡ b)
is_full r P a b e h = IfOk-weaker r (λ full. (full ≡ a) × P) (λ full. full ≡ b) (λ x p. p.0 ∙ sym e) h

pub too_many : {E : Type 0} (r : Result Bool E) (many : E) (b : Bool) (max n : ℕ) (f : List ℕ) → b ≡ false →
    IfErr r (λ fault. (fault ≡ many) × (max < n)) → IfErr r (λ fault. fault ≡ many → (b ≡ false) × (max < n + length f))
too_many r many b max n f e h = IfErr-weaker r (λ fault. (fault ≡ many) × (max < n)) (λ fault. fault ≡ many →
    (b ≡ false) × (max < n + length f)) (λ y p. λ same. (e, let l = p.1 in omega arith)) h

-- ---- the loop over the children

filled_short : (S : ℕ → Bool) (lo a b : ℕ) → a ≤ b → filled S lo a ≡ false → filled S lo b ≡ false
filled_short S lo a b h f =
    let e : b ≡ a + (b - a) = omega arith in
    ap (filled S lo) e ∙ filled_add S lo a (b - a) ∙ and_left (filled S lo a) (filled S (lo + a) (b - a)) f

-- what a visit of the child `n` gave
pub record Child (S : ℕ → Bool) (g d m n : ℕ) (now new : List ℕ) (inside : Bool) : Type 0 where
  pub list : new ≡ now ++ form S g (d - 1 - g) (4 * m + n)
  pub full : inside ≡ filled S ((4 * m + n) * 4 ^ (d - 1)) (4 ^ (d - 1))

abbrev pub Both : Bool → Bool → Bool → Type 0
Both full inside result = ((full ≡ true) × (result ≡ inside)) ⊎ ((full ≡ false) × (result ≡ false))

four_of : (d n : ℕ) → 0 < d → n ≤ 4 → n * 4 ^ (d - 1) ≤ 4 ^ d
four_of d n hd hn =
    let e : d ≡ suc (d - 1) = omega arith in
    let p : 4 ^ d ≡ 4 ^ (d - 1) * 4 = ap (λ z. 4 ^ z) e ∙ pow-suc 4 (d - 1) in
    let q : n * 4 ^ (d - 1) ≤ 4 * 4 ^ (d - 1) = mul-le-mul_right {m = n} {n = 4} (4 ^ (d - 1)) hn in
    omega arith

four_at : (S : ℕ → Bool) (d m : ℕ) → 0 < d → filled S (m * 4 ^ d) (4 * 4 ^ (d - 1)) ≡ filled S (m * 4 ^ d) (4 ^ d)
four_at S d m hd =
    let e : d ≡ suc (d - 1) = omega arith in
    let p : 4 ^ d ≡ 4 ^ (d - 1) * 4 = ap (λ z. 4 ^ z) e ∙ pow-suc 4 (d - 1) in
    let q : 4 * 4 ^ (d - 1) ≡ 4 ^ d = omega arith in
    ap (filled S (m * 4 ^ d)) q

filled_next : (S : ℕ → Bool) (d m n : ℕ) → 0 < d → n < 4 → filled S (m * 4 ^ d) ((n + 1) * 4 ^ (d - 1))
    ≡ (filled S (m * 4 ^ d) (n * 4 ^ (d - 1)) && filled S ((4 * m + n) * 4 ^ (d - 1)) (4 ^ (d - 1)))
filled_next S d m n hd hn =
    let e : suc (d - 1) ≡ d = omega arith in
    rw e at (filled_more S (d - 1) m n hn)

pub whole_next : (S : ℕ → Bool) (d m n : ℕ) {full inside result : Bool} → 0 < d → n < 4 →
    full ≡ filled S (m * 4 ^ d) (n * 4 ^ (d - 1)) → inside ≡ filled S ((4 * m + n) * 4 ^ (d - 1)) (4 ^ (d - 1)) →
    Both full inside result → result ≡ filled S (m * 4 ^ d) ((n + 1) * 4 ^ (d - 1))
whole_next S d m n hd hn e f (inl w) = w.1 ∙ f
    ∙ sym (filled_next S d m n hd hn ∙ ap (λ z. z && filled S ((4 * m + n) * 4 ^ (d - 1)) (4 ^ (d - 1))) (sym e ∙ w.0))
whole_next S d m n hd hn e f (inr w) = w.1
    ∙ sym (filled_next S d m n hd hn ∙ ap (λ z. z && filled S ((4 * m + n) * 4 ^ (d - 1)) (4 ^ (d - 1))) (sym e ∙ w.0))

pub list_next : (S : ℕ → Bool) (g d m n : ℕ) (old now new : List ℕ) →
    now ≡ old ++ joined (λ p. form S g (d - 1 - g) (4 * m + p)) n → new ≡ now ++ form S g (d - 1 - g) (4 * m + n) →
    new ≡ old ++ joined (λ p. form S g (d - 1 - g) (4 * m + p)) (n + 1)
list_next S g d m n old now new e f =
    f ∙ ap (λ z. z ++ form S g (d - 1 - g) (4 * m + n)) e
    ∙ append_assoc old (joined (λ p. form S g (d - 1 - g) (4 * m + p)) n) (form S g (d - 1 - g) (4 * m + n))
    ∙ ap (λ z. old ++ z) (sym (joined_more (λ p. form S g (d - 1 - g) (4 * m + p)) n))

pub visited_next : {S : ℕ → Bool} {g d m n : ℕ} {old now new : List ℕ} {old_len now_len : ℕ} (new_len : ℕ)
    {full inside result : Bool} {loose max before : ℕ} → g < d → n < 4 → now_len ≡ length now → new_len ≡ length new →
    Visited S g d m n old now old_len now_len full loose max before → Child S g d m n now new inside → Both full inside
    result → (result ≡ false → new_len ≤ max) → Visited S g d m (n + 1) old new old_len new_len result loose max before
visited_next {S} {g} {d} {m} {n} {old} {now} {new} new_len {full} {inside} {result} hg hn en ew v c both room =
    record {
      list = list_next S g d m n old now new v.list c.list;
      whole = whole_next S d m n (omega arith) hn v.whole c.full both;
      tight = λ r. ⊎_elim
          (λ (w : (full ≡ true) × (result ≡ inside)).
          let one = form_whole_at S g (d - 1) (4 * m + n) (omega arith) (sym c.full ∙ sym w.1 ∙ r) in
          let len : length new ≡ length now + 1 = ap length (c.list ∙ ap (λ z. now ++ z) one)
          ∙ length-append now (cell_at (d - 1) (4 * m + n) ∷ []) in
          let t = v.tight w.0 in
          omega arith)
          (λ (w : (full ≡ false) × (result ≡ false)). absurd (both_ways result w.1 r)) both;
      room = room;
      start = v.start;
      early = v.early;
    }

-- a cell above the level has a greater depth than the grain
pub deeper : (c : ℕ) {k level : ℕ} →
    level_of c ≤ k → k ≤ 30 → level ≡ level_of c → (level ≡ k → ⊥) → 30 - k < depth_of c
deeper c above most is differs = omega arith

-- a list that is too long with some children is too long with all of them
pub many_next : (S : ℕ → Bool) (g d m n : ℕ) (old new : List ℕ) (old_len max : ℕ) (result : Bool) →
    g < d → n < 4 → old_len ≡ length old → new ≡ old ++ joined (λ p. form S g (d - 1 - g) (4 * m + p)) (n + 1) →
    result ≡ filled S (m * 4 ^ d) ((n + 1) * 4 ^ (d - 1)) → result ≡ false →
    max < length new → (filled S (m * 4 ^ d) (4 ^ d) ≡ false) × (max < old_len + length (form S g (d - g) m))
many_next S g d m n old new old_len max result hg hn eo list whole lacks long =
    let f = filled_short S (m * 4 ^ d) ((n + 1) * 4 ^ (d - 1)) (4 ^ d)
    (four_of d (n + 1) (omega arith) (omega arith)) (sym whole ∙ lacks) in
    let kids = form_children S g d m hg f in
    let grow = joined_grows (λ p. form S g (d - 1 - g) (4 * m + p)) (n + 1) 4 (omega arith) in
    let len = ap length list ∙ length-append old (joined (λ p. form S g (d - 1 - g) (4 * m + p)) (n + 1)) in
    let same = ap length kids in
    (f, omega arith)

-- the same if the visit of a child stopped
pub many_child : {S : ℕ → Bool} {g d m n : ℕ} {old now : List ℕ} {old_len now_len : ℕ} {full : Bool}
    {loose max before : ℕ} → g < d → n < 4 → old_len ≡ length old → now_len ≡ length now →
    Visited S g d m n old now old_len now_len full loose max before →
    filled S ((4 * m + n) * 4 ^ (d - 1)) (4 ^ (d - 1)) ≡ false →
    max < now_len + length (form S g (d - 1 - g) (4 * m + n)) →
    (filled S (m * 4 ^ d) (4 ^ d) ≡ false) × (max < old_len + length (form S g (d - g) m))
many_child {S} {g} {d} {m} {n} {old} {now} {old_len} {max} hg hn eo en v lacks long =
    let next = list_next S g d m n old now (now ++ form S g (d - 1 - g) (4 * m + n)) v.list refl in
    let no2 = filled_next S d m n (omega arith) hn
    ∙ and_right (filled S (m * 4 ^ d) (n * 4 ^ (d - 1))) (filled S ((4 * m + n) * 4 ^ (d - 1)) (4 ^ (d - 1))) lacks in
    let len = length-append now (form S g (d - 1 - g) (4 * m + n)) in
    many_next S g d m n old (now ++ form S g (d - 1 - g) (4 * m + n)) old_len max false hg hn eo next (sym no2)
    refl (omega arith)

-- after four children
pub all_children : {S : ℕ → Bool}
    {g d m n : ℕ} {old now : List ℕ} {old_len now_len : ℕ} {full : Bool} {loose max before : ℕ} → g < d → n ≡ 4 →
    full ≡ true → old_len ≡ length old → Visited S g d m n old now old_len now_len full loose max before → Whole S g d m
all_children {S} {g} {d} {m} hg hn t eo v =
    let h : filled S (m * 4 ^ d) (4 ^ d) ≡ true = sym (four_at S d m (omega arith))
    ∙ ap (λ z. filled S (m * 4 ^ d) (z * 4 ^ (d - 1))) (sym hn) ∙ sym v.whole ∙ t in
    record { holds = h; cells = form_whole_at S g d m (omega arith) h }

pub kept : {S : ℕ → Bool} {g d m n : ℕ} {old now : List ℕ} {old_len now_len : ℕ} {full : Bool} {loose max before : ℕ} →
    old_len ≡ length old → Visited S g d m n old now old_len now_len full loose max before → take before now ≡ old
kept {S} {g} {d} {m} {n} {old} {now} {before} eo v =
    let e : before ≡ length old = v.start ∙ eo in
    ap (λ z. take z now) e ∙ ap (take (length old)) v.list
    ∙ take-append_seam old (joined (λ p. form S g (d - 1 - g) (4 * m + p)) n)

pub some_children : {S : ℕ → Bool} {g d m n : ℕ} {old now : List ℕ} {old_len now_len : ℕ}
    {full : Bool} {loose max before : ℕ} → g < d → n ≡ 4 → full ≡ false → Visited S g d m n old now
    old_len now_len full loose max before → (false ≡ filled S (m * 4 ^ d) (4 ^ d)) × (now ≡ old ++ form S g (d - g) m)
some_children {S} {g} {d} {m} {old} hg hn f v =
    let h : filled S (m * 4 ^ d) (4 ^ d) ≡ false = sym (four_at S d m (omega arith))
    ∙ ap (λ z. filled S (m * 4 ^ d) (z * 4 ^ (d - 1))) (sym hn) ∙ sym v.whole ∙ f in (
      sym h,
      v.list ∙ ap (λ z. old ++ joined (λ p. form S g (d - 1 - g) (4 * m + p)) z) hn
          ∙ ap (λ z. old ++ z) (sym (form_children S g d m hg h)),
    )

-- a child, by its depth and place
pub record ChildAt (c p : ℕ) : Type 0 where
  pub cell : IsCell (child_of c p)
  pub level : level_of (child_of c p) ≡ level_of c + 1
  pub depth : depth_of (child_of c p) + 1 ≡ depth_of c
  pub place : place_of (child_of c p) ≡ 4 * place_of c + p

pub child_at : {c : ℕ} (p : ℕ) → IsCell c → level_of c < 30 → p < 4 → ChildAt c p
child_at {c} p i h q =
    let w = IsCellAt-child_of c p i h q in
    let l = level_of_cell (level_of c + 1) (4 * place_of c + p) (child_of c p) w in
    record {
      cell = IsCell-child_of c p (child_of c p) i h q refl;
      level = l;
      depth = omega arith;
      place = place_of_cell (level_of c + 1) (4 * place_of c + p) (child_of c p) w;
    }

pub visited_none : (S : ℕ → Bool) (g d m : ℕ) (old : List ℕ) (len loose max before : ℕ) → len ≤ max + loose →
    before ≡ len → Visited S g d m 0 old old len len true loose max before
unfolding joined filled
visited_none S g d m old len loose max before h e =
    record {
      list = sym (append-nil old);
      whole = let z : 0 * 4 ^ (d - 1) ≡ 0 = omega arith in sym (ap (filled S (m * 4 ^ d)) z);
      tight = λ r. omega arith;
      room = λ r. absurd (both_ways true r refl);
      start = e;
      early = omega arith;
    }

-- the cells that may still merge, as a child's visit takes them
pub record Held (d c loose n held max len : ℕ) : Type 0 where
  pub bound : held ≤ 3 * c
  pub room : len ≤ max + held

pub held_full : {S : ℕ → Bool} {g : ℕ} (l : ℕ) {d m n : ℕ} {old now : List ℕ} {old_len now_len : ℕ}
    {full : Bool} {loose max before : ℕ} (c held : ℕ) → c ≡ l + 1 → n < 4 → loose ≤ 3 * l → held ≡ loose + n →
    full ≡ true → Visited S g d m n old now old_len now_len full loose max before → Held l c loose n held max now_len
held_full l c held hc hn hl hh t v = let a = v.tight t in
    let b = v.early in record { bound = omega arith; room = omega arith }

pub held_none : {S : ℕ → Bool} {g : ℕ} (l : ℕ)
    {d m n : ℕ} {old now : List ℕ} {old_len now_len : ℕ} {full : Bool} {loose max before : ℕ} (c held : ℕ) → held ≡ 0 →
    full ≡ false → Visited S g d m n old now old_len now_len full loose max before → Held l c loose n held max now_len
held_none l c held hh f v = let a = v.room f in
    record { bound = omega arith; room = omega arith }

pub child_from : (S : ℕ → Bool) (g d m n : ℕ) (now new : List ℕ) (inside : Bool) (k p : ℕ) → k + 1 ≡ d → p ≡ 4 * m + n →
    new ≡ now ++ form S g (k - g) p → inside ≡ filled S (p * 4 ^ k) (4 ^ k) → Child S g d m n now new inside
child_from S g d m n now new inside k p hk hp e f =
    let ek : k ≡ d - 1 = omega arith in
    record { list = rw (ek, hp) at e; full = rw (hp, ek) at f }

pub child_stops : (S : ℕ → Bool) (g d m n : ℕ) (k p max len : ℕ) → k + 1 ≡ d → p ≡ 4 * m + n →
    (filled S (p * 4 ^ k) (4 ^ k) ≡ false) × (max < len + length (form S g (k - g) p))
    → (filled S ((4 * m + n) * 4 ^ (d - 1)) (4 ^ (d - 1)) ≡ false)
    × (max < len + length (form S g (d - 1 - g) (4 * m + n)))
child_stops S g d m n k p max len hk hp h =
    let ek : k ≡ d - 1 = omega arith in
    (rw (hp, ek) at h.0, rw (ek, hp) at h.1)
