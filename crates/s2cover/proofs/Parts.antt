-- The greatest cells of an aligned set in the cells of a union are the normal form of what the two share.
use Rattle.std.proofs.Common.{◌≡◌, ℕ, suc, zero, ◌+◌, ◌-◌, ◌*◌, ◌/◌, ◌^◌, ◌<◌, ◌≤◌, Bool, true}
use Rattle.std.proofs.Common.{false, cond, ◌&&◌, ◌||◌, nat_lt, List, [], ◌∷◌, ◌++◌, length, get_or, take}
use Rattle.std.proofs.Common.{All, AllPairs, Contains, refl, sym, ◌∙◌, ap, arith, subst, ⊎_elim, append-nil}
use Rattle.std.specs.List.{flat_map}
use Rattle.std.proofs.lemmas.Bool.{and_right, and_parts, and_from, cases_lt, leb-true, lt-ltb, cases_Bool}
use Rattle.std.proofs.lemmas.List.Elements.{All-append, All-contains, Contains-get_or}
use Rattle.std.proofs.lemmas.List.Folds.{list_any-append, length-flat_map-take}
use Rattle.std.proofs.Math.Seq.{take-suc}
use Rattle.std.proofs.lemmas.Grind.{flat_map-append}
use Rattle.s2cell.specs.Cell.{IsCell, level_of, place_of, size_of, first_leaf, covers, parent_of}
use Rattle.s2cell.proofs.Calls.{IsCell-parent_of}
use Rattle.s2cell.proofs.Family.{deeper_inside, parent_level, parent_around}
use Rattle.s2cell.proofs.Leaves.{covers_from, inside_from_within}
use Rattle.s2cell.proofs.Squares.{first_leaf_covered}
use Rattle.s2cell.specs.declared.TheConstants.{LEAVES}
use Rattle.s2cell.proofs.CellLemmas.{cell_leaves, four_pos}
use Rattle.s2list.specs.Union.{has_leaf, IsGreatestIn, IsLocal, IsNormalForm}
use Rattle.s2list.specs.Packed.{EndsBefore}
use Rattle.s2list.proofs.Normal.{leaf_from, leaf_to, member_greatest, one_normal_form}
use Rattle.s2list.proofs.Checking.{packed_from_local}
use Rattle.s2list.proofs.Picking.{picked_normal}
use Rattle.s2cover.specs.Coverings.{filled, touched, outer_set, inner_set}
use Rattle.s2cover.specs.Working.Cut.{cells_cut}
use Rattle.s2cover.specs.Cut.{reaches, cells_kept}
use Rattle.s2cover.specs.Working.Descent.{form_in, form, joined, cell_at, depth_of, IsAligned}
use Rattle.s2cover.proofs.Runs.{block_in, is_touched, touched_from_none, filled_from, not_filled}
use Rattle.s2cover.proofs.Forms.{child_run}
use Rattle.s2cover.proofs.Rounded.{leaf_in_block, block_leaves}
use Rattle.s2cover.proofs.Squares.{same_bool}
use Rattle.s2cover.proofs.Visits.{covers_at, leaf_at}
use Rattle.s2cover.proofs.Levelling.{cut_cell, cut_same, cut_parent}
use Rattle.s2cover.proofs.Formed.{Run, formed, all_pairs_append, or_and}

-- ---- two sets with the same leaves in a cell

filled_same : (S T : ℕ → Bool) (lo n : ℕ) → ((x : ℕ) → lo ≤ x → x < lo + n → S x ≡ T x) → filled S lo n ≡ filled T lo n
unfolding filled
filled_same S T lo zero h = refl
filled_same S T lo (suc n) h =
    ap (λ b. b && S (lo + n)) (filled_same S T lo n (λ x a b. h x a (omega arith)))
    ∙ ap (λ b. filled T lo n && b) (h (lo + n) (omega arith) (omega arith))

joined_same : (f h : ℕ → List ℕ) (n : ℕ) → ((p : ℕ) → p < n → f p ≡ h p) → joined f n ≡ joined h n
unfolding joined
joined_same f h zero e = refl
joined_same f h (suc n) e =
    ap (λ u. u ++ f n) (joined_same f h n (λ p l. e p (omega arith))) ∙ ap (λ u. joined h n ++ u) (e n (omega arith))

form_same : (S T : ℕ → Bool) (g e m : ℕ) → ((x : ℕ) → m * 4 ^ (g + e) ≤ x → x < m * 4 ^ (g + e) + 4 ^ (g + e) →
    S x ≡ T x) → form S g e m ≡ form T g e m
unfolding form
form_same S T g zero m h =
    let e : g + 0 ≡ g = omega arith in
    ap (λ b. cond b (cell_at g m ∷ []) []) (filled_same S T (m * 4 ^ g) (4 ^ g) (rw e at h))
form_same S T g (suc e) m h =
    let e1 : g + suc e ≡ suc (g + e) = omega arith in
    let h1 = rw e1 at h in
    ap (λ b. cond b (cell_at (g + suc e) m ∷ []) (joined (λ p. form S g e (4 * m + p)) 4))
    (filled_same S T (m * 4 ^ (g + suc e)) (4 ^ (g + suc e)) h)
    ∙ ap (λ u. cond (filled T (m * 4 ^ (g + suc e)) (4 ^ (g + suc e))) (cell_at (g + suc e) m ∷ []) u)
    (joined_same (λ p. form S g e (4 * m + p)) (λ p. form T g e (4 * m + p)) 4 (λ p l.
    form_same S T g e (4 * m + p) (λ x a b.
    let w = child_run m p (g + e) l in
    let u = w.after in
    let v = w.before in
    h1 x (omega arith) (omega arith))))

form_in_same : (S T : ℕ → Bool) (g c : ℕ) → g ≤ depth_of c → ((x : ℕ) → covers c x ≡ true → S x ≡ T x) →
    form_in S g c ≡ form_in T g c
form_in_same S T g c hg h =
    let d = depth_of c in
    let m = place_of c in
    let e : d ≡ g + (d - g) = omega arith in
    form_same S T g (d - g) m (subst (λ (z : ℕ). (x : ℕ) → m * 4 ^ z ≤ x → x < m * 4 ^ z + 4 ^ z → S x ≡ T x) e
    (λ x a b. h x (covers_at c x a b)))

-- ---- the leaves of cells that reach a level are made of whole cells of the level

cell_to : (g c x y : ℕ) → g ≤ depth_of c → x / 4 ^ g ≡ y / 4 ^ g → covers c x ≡ true → covers c y ≡ true
cell_to g c x y hg e v =
    let l = leaf_at c x v in
    let w = block_in x (place_of c) g (depth_of c) hg l.0 l.1 in
    let b = leaf_in_block g x y (sym e) in
    let wa = w.after in
    let wb = w.before in
    let ba = b.0 in
    let bb = b.1 in
    covers_at c y (omega arith) (omega arith)

cells_aligned : (g : ℕ) (u : List ℕ) → All (λ c. g ≤ depth_of c) u → IsAligned (has_leaf u) g
cells_aligned g [] h x y e = refl
cells_aligned g (c ∷ u) h x y e =
    let hg = h 0 c (omega arith) in
    ap (λ b. b || has_leaf u x) (same_bool (covers c x) (covers c y) (cell_to g c x y hg e)
    (cell_to g c y x hg (sym e)))
    ∙ ap (λ b. covers c y || b) (cells_aligned g u (λ k d l. h (suc k) d (omega arith)) x y e)

-- what a union and a set share
abbrev pub Intersection : List ℕ → (ℕ → Bool) → ℕ → Bool
Intersection u S x = has_leaf u x && S x

intersection_aligned : (S : ℕ → Bool) (g : ℕ) (u : List ℕ) → IsAligned S g → All (λ c. g ≤ depth_of c) u →
    IsAligned (Intersection u S) g
intersection_aligned S g u al h x y e =
    ap (λ b. b && S x) (cells_aligned g u h x y e) ∙ ap (λ b. has_leaf u y && b) (al x y e)

-- the cells in one cell of the union
part_run : (S : ℕ → Bool) (g : ℕ) {u : List ℕ} (c : ℕ) → IsAligned S g → IsLocal u → All (λ c. g ≤ depth_of c) u →
    Contains u c → Run (Intersection u S) (first_leaf c) (first_leaf c + size_of c) (form_in S g c)
part_run S g {u} c al l h m =
    let T = Intersection u S in
    let hg : g ≤ depth_of c = All-contains (λ c. g ≤ depth_of c) u c h m in
    let i : IsCell c = All-contains IsCell u c l.cells m in
    let r = formed T g (depth_of c - g) (intersection_aligned S g u al h) i (omega arith)
    (λ deep p. (member_greatest u l c m).greatest deep (λ x v. (and_parts (has_leaf u x) (S x) (p x v)).0)) in
    subst (λ (v : List ℕ). Run T (first_leaf c) (first_leaf c + size_of c) v)
    (form_in_same T S g c hg (λ x v. ap (λ b. b && S x) (leaf_to u c x m v))) r

-- ---- all cells of the union

record Parts (T : ℕ → Bool) (u v : List ℕ) : Type 0 where
  greatest : All (IsGreatestIn T) v
  chain : AllPairs EndsBefore v
  low : (lo : ℕ) → All (λ c. lo ≤ first_leaf c) u → All (λ c. lo ≤ first_leaf c) v
  leaves : (x : ℕ) → has_leaf v x ≡ (has_leaf u x && T x)

parts_join : (T : ℕ → Bool) (f : ℕ → List ℕ) (u : List ℕ) → AllPairs EndsBefore u →
    ((k d : ℕ) → k < length u → Run T (first_leaf (get_or u k d)) (first_leaf (get_or u k d) + size_of (get_or u k d))
    (f (get_or u k d))) → Parts T u (flat_map f u)
parts_join T f [] chain runs = record {
  greatest = λ k d h. absurd (omega arith);
  chain = λ i j d h l. absurd (omega arith);
  low = λ lo a k d h. absurd (omega arith);
  leaves = λ x. refl;
}
parts_join T f (c ∷ u) chain runs =
    let v = flat_map f u in
    let r = runs 0 c (omega arith) in
    let j = parts_join T f u (λ a b d l m. chain (suc a) (suc b) d (omega arith) (omega arith))
    (λ k d l. runs (suc k) d (omega arith)) in
    let after : All (λ d. first_leaf c + size_of c ≤ first_leaf d) u =
    λ k d l. chain 0 (suc k) d (omega arith) (omega arith) in
    record {
      greatest = All-append (IsGreatestIn T) (f c) v r.greatest j.greatest;
      chain = all_pairs_append EndsBefore (f c) v r.chain j.chain (λ k d h. λ i e l. let x = r.high k d h in
          let y = j.low (first_leaf c + size_of c) after i e l in omega arith);
      low = λ lo a. All-append (λ d. lo ≤ first_leaf d) (f c) v (λ k d h. let x = r.low k d h in
          let y = a 0 c (omega arith) in omega arith) (j.low lo (λ k d l. a (suc k) d (omega arith)));
      leaves = λ x. list_any-append (λ c. covers c x) (f c) v ∙ ap (λ z. z || has_leaf v x) (r.leaves x)
          ∙ ap (λ z. (covers c x && T x) || z) (j.leaves x) ∙ or_and (covers c x) (has_leaf u x) (T x);
    }

and_again : (a b : Bool) → (a && (a && b)) ≡ (a && b)
and_again true b = refl
and_again false b = refl

pub record Clipped (S : ℕ → Bool) (u v : List ℕ) : Type 0 where
  pub normal : IsNormalForm (Intersection u S) v
  pub leaves : (x : ℕ) → has_leaf v x ≡ Intersection u S x

deep_enough : (k : ℕ) (u : List ℕ) → All (λ c. level_of c ≤ k) u → All (λ c. 30 - k ≤ depth_of c) u
deep_enough k u h i d l = let a = h i d l in omega arith

pub parts_normal : (S : ℕ → Bool) (k : ℕ) {u : List ℕ} →
    IsAligned S (30 - k) → IsLocal u → All (λ c. level_of c ≤ k) u → Clipped S u (flat_map (form_in S (30 - k)) u)
parts_normal S k {u} al l h =
    let T = Intersection u S in
    let p = parts_join T (form_in S (30 - k)) u (packed_from_local u l).chain
    (λ i d m. part_run S (30 - k) (get_or u i d) al l (deep_enough k u h) (Contains-get_or u i d m)) in
    let same : (x : ℕ) → has_leaf (flat_map (form_in S (30 - k)) u) x ≡ T x = λ x. p.leaves x
    ∙ and_again (has_leaf u x) (S x) in
    record {
      normal = picked_normal T (flat_map (form_in S (30 - k)) u) (record { chain = p.chain; greatest = p.greatest })
          same;
      leaves = same;
    }

pub parts_many : (S : ℕ → Bool) (k : ℕ) {u w : List ℕ} (max : ℕ) → IsAligned S (30 - k) → IsLocal u → All (λ c. level_of
    c ≤ k) u → max < length (flat_map (form_in S (30 - k)) u) → IsNormalForm (Intersection u S) w → max < length w
parts_many S k {u} {w} max al l h m n =
    let e = ap length
    (one_normal_form (Intersection u S) (flat_map (form_in S (30 - k)) u) w (parts_normal S k al l h).normal n) in
    omega arith

-- ---- the list on the way

pub record Gathered (f : ℕ → List ℕ) (u list : List ℕ) (len max : ℕ) : Type 0 where
  pub cells : list ≡ flat_map f u
  pub few : len ≤ max

pub gathered_next : {f : ℕ → List ℕ} (u : List ℕ)
    (i c d : ℕ) {list : List ℕ} (new : List ℕ) {len : ℕ} (next : ℕ) {max : ℕ} → i < length u → c ≡ get_or u i d →
    Gathered f (take i u) list len max → new ≡ list ++ f c → next ≤ max → Gathered f (take (i + 1) u) new next max
gathered_next {f} u i c d new next h e g is few =
    let one : i + 1 ≡ suc i = omega arith in
    let more : take (i + 1) u ≡ take i u ++ (c ∷ []) = ap (λ z. take z u) one ∙ take-suc u i d h
    ∙ ap (λ z. take i u ++ (z ∷ [])) (sym e) in
    record {
      cells = is ∙ ap (λ z. z ++ f c) g.cells ∙ ap (λ z. flat_map f (take i u) ++ z) (sym (append-nil (f c)))
          ∙ sym (flat_map-append f (take i u) (c ∷ [])) ∙ ap (flat_map f) (sym more);
      few = few;
    }

pub gathered_many : {f : ℕ → List ℕ} (u : List ℕ) (i c d : ℕ) {list : List ℕ} {len max : ℕ} →
    i < length u → c ≡ get_or u i d →
    Gathered f (take i u) list len max → len ≡ length list → max < len + length (f c) → max < length (flat_map f u)
gathered_many {f} u i c d h e g el m =
    let t = length-flat_map-take f u i d h in
    let a = ap length g.cells in
    let b = ap (λ z. length (f z)) e in
    omega arith

-- ---- the levels of the cells of a union

-- the normal form of cells that reach a level has no deeper cells
pub normal_above : (k : ℕ) {u : List ℕ} (v : List ℕ) → IsLocal u →
    All IsCell v → All (λ c. level_of c ≤ k) v → ((x : ℕ) → has_leaf u x ≡ has_leaf v x) → All (λ c. level_of c ≤ k) u
normal_above k {u} v l all h same i d n =
    let c = get_or u i d in
    let m : Contains u c = Contains-get_or u i d n in
    let ic : IsCell c = All-contains IsCell u c l.cells m in
    let x = first_leaf c in
    let own = first_leaf_covered c ic in
    let r = leaf_from v x (sym (same x) ∙ leaf_to u c x m own) in
    let b = r.cell in
    let ib : IsCell b = All-contains IsCell v b all r.member in
    let lb : level_of b ≤ k = All-contains (λ c. level_of c ≤ k) v b h r.member in
    ⊎_elim
    (λ (deep : k < level_of c).
    let le : level_of c - 1 ≤ level_of c = omega arith in
    let p = parent_of c (level_of c - 1) in
    let ip : IsCell p = IsCell-parent_of c (level_of c - 1) p ic le refl in
    let lp = parent_level c (level_of c - 1) ic le in
    let xp = covers_from p x (inside_from_within c p (parent_around c (level_of c - 1) ic le) x own) in
    let w = deeper_inside p b x ip ib (omega arith) xp.0 xp.1 r.low r.high in
    absurd ((member_greatest u l c m).greatest (omega arith) (λ y t. same y
    ∙ leaf_to v b y r.member (inside_from_within p b w y t))))
    (λ (fine : level_of c ≤ k). fine)
    (cases_lt k (level_of c))

pub cut_above : (k : ℕ) (u : List ℕ) → All IsCell u → All (λ c. level_of c ≤ k) (cells_cut k u)
cut_above k [] h i d l = absurd (omega arith)
cut_above k (c ∷ u) h zero d l =
    let ic = h 0 c (omega arith) in
    ⊎_elim
    (λ (deep : k < level_of c).
    let e = ap level_of (cut_parent k c deep) in
    let lp = parent_level c k ic (omega arith) in
    omega arith)
    (λ (fine : level_of c ≤ k). let e = ap level_of (cut_same k c fine) in omega arith)
    (cases_lt k (level_of c))
cut_above k (c ∷ u) h (suc i) d l = cut_above k u (λ j e m. h (suc j) e (omega arith)) i d (omega arith)

pub cut_cells : (k : ℕ) (u : List ℕ) → All IsCell u → All IsCell (cells_cut k u)
cut_cells k [] h i d l = absurd (omega arith)
cut_cells k (c ∷ u) h zero d l = cut_cell k c (h 0 c (omega arith))
cut_cells k (c ∷ u) h (suc i) d l = cut_cells k u (λ j e m. h (suc j) e (omega arith)) i d (omega arith)

kept_above_one : (k c : ℕ) (v : List ℕ) (b : Bool) → (b ≡ true → level_of c ≤ k) → All (λ c. level_of c ≤ k) v →
    All (λ c. level_of c ≤ k) (cond b (c ∷ v) v)
kept_above_one k c v true h a zero d l = h refl
kept_above_one k c v true h a (suc i) d l = a i d (omega arith)
kept_above_one k c v false h a i d l = a i d l

pub kept_above : (k : ℕ) (u : List ℕ) → All (λ c. level_of c ≤ k) (cells_kept k u)
kept_above k [] i d l = absurd (omega arith)
kept_above k (c ∷ u) i d l =
    kept_above_one k c (cells_kept k u) (reaches k c) (leb-true (level_of c) k) (kept_above k u) i d l

-- ---- an aligned set is its own covering

aligned_outer : (T : ℕ → Bool) (k x : ℕ) → IsAligned T (30 - k) → (T x ≡ true → x < LEAVES) → T x ≡ outer_set T k x
unfolding outer_set
aligned_outer T k x al lim =
    let n = 4 ^ (30 - k) in
    let lo = x / n * n in
    ⊎_elim
    (λ (t : T x ≡ true). t ∙ sym (and_from (nat_lt x LEAVES) (touched T lo n) (lt-ltb x LEAVES (lim t))
    (is_touched T lo n (four_pos (30 - k)) (λ y a b. al y x (block_leaves (30 - k) x y a b) ∙ t))))
    (λ (f : T x ≡ false). f ∙ sym (and_right (nat_lt x LEAVES) (touched T lo n)
    (touched_from_none T lo n (λ y a b. al y x (block_leaves (30 - k) x y a b) ∙ f))))
    (cases_Bool (T x))

aligned_inner : (T : ℕ → Bool) (k x : ℕ) → IsAligned T (30 - k) → (T x ≡ true → x < LEAVES) → T x ≡ inner_set T k x
unfolding inner_set
aligned_inner T k x al lim =
    let n = 4 ^ (30 - k) in
    let lo = x / n * n in
    ⊎_elim
    (λ (t : T x ≡ true). t ∙ sym (and_from (nat_lt x LEAVES) (filled T lo n) (lt-ltb x LEAVES (lim t))
    (filled_from T lo n (λ y a b. al y x (block_leaves (30 - k) x y a b) ∙ t))))
    (λ (f : T x ≡ false). f ∙ sym (and_right (nat_lt x LEAVES) (filled T lo n)
    (not_filled T lo n (four_pos (30 - k)) (λ y a b. al y x (block_leaves (30 - k) x y a b) ∙ f))))
    (cases_Bool (T x))

intersection_limit : (S : ℕ → Bool) {u : List ℕ} (x : ℕ) → IsLocal u → Intersection u S x ≡ true → x < LEAVES
intersection_limit S {u} x l t =
    let r = leaf_from u x (and_parts (has_leaf u x) (S x) t).0 in
    let w = (cell_leaves r.cell (All-contains IsCell u r.cell l.cells r.member)).within in
    let h = r.high in
    omega arith

pub intersection_outer : (S : ℕ → Bool) (k : ℕ) {u : List ℕ} →
    IsAligned S (30 - k) → IsLocal u → All (λ c. level_of c ≤ k) u → (x : ℕ) →
    Intersection u S x ≡ outer_set (Intersection u S) k x
intersection_outer S k {u}
    al l h x = aligned_outer (Intersection u S) k x (intersection_aligned S (30 - k) u al (deep_enough k u h))
    (intersection_limit S x l)

pub intersection_inner : (S : ℕ → Bool) (k : ℕ) {u : List ℕ} →
    IsAligned S (30 - k) → IsLocal u → All (λ c. level_of c ≤ k) u → (x : ℕ) →
    Intersection u S x ≡ inner_set (Intersection u S) k x
intersection_inner S k {u}
    al l h x = aligned_inner (Intersection u S) k x (intersection_aligned S (30 - k) u al (deep_enough k u h))
    (intersection_limit S x l)
