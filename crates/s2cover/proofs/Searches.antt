-- How many looks a search takes.
use Rattle.std.proofs.Common.{◌≡◌, ℕ, suc, zero, ◌+◌, ◌-◌, ◌*◌, ◌/◌, ◌^◌, ◌<◌, ◌≤◌, Bool, true}
use Rattle.std.proofs.Common.{false, List, [], ◌∷◌, ◌++◌, length, sym, ◌∙◌, ap, arith, subst, ⊎_elim, length-append}
use Rattle.std.proofs.Common.{◌↔◌}
use Rattle.std.proofs.Common.{append-nil, Result, IfOk, IfErr}
use Rattle.std.proofs.lemmas.Result.{IfOk-weaker, IfErr-weaker}
use Rattle.std.proofs.lemmas.Bool.{cases_lt, cases_Bool, both_ways, cond-true, cond-false, false_from_ne_true}
use Rattle.std.proofs.lemmas.Nat.{div-add-mod', mod_below}
use Rattle.std.proofs.Math.Nat.{pow-suc, mul-le-mul_right}
use Rattle.s2cell.proofs.CellLemmas.{four_pos}
use Rattle.s2list.specs.Union.{LiesIn}
use Rattle.s2cover.specs.Coverings.{filled, LiesOutside}
use Rattle.s2cover.specs.declared.region.Part.TheVariants.{Out, In, Cross}
use Rattle.s2cover.specs.Working.Descent.{form, joined, cell_at, depth_of, IsAligned}
use Rattle.s2cover.proofs.Runs.{filled_each, filled_from, block_here}
use Rattle.s2cover.proofs.Visits.{list_next, leaf_at, child_at, covers_at, id_of, whole_from}
use Rattle.s2cell.specs.Cell.{IsCell, place_of, covers, child_of}
use Rattle.s2cover.proofs.Forms.{form_children, form_none_at, joined_more, joined_grows}

-- a list of a part is no longer than all
joined_part : (f : ℕ → List ℕ) (n p : ℕ) → p < n → length (f p) ≤ length (joined f n)
unfolding joined
joined_part f zero p h = absurd (omega arith)
joined_part f (suc n) p h =
    let len = length-append (joined f n) (f n) in
    ⊎_elim (λ below. let k = joined_part f n p below in omega arith) (λ last. let e : n ≡ p = omega arith in
    let k = ap (λ z. length (f z)) e in omega arith) (cases_lt p n)

-- where the leaf of a cell lies among the cell's children
pub record InChild (x m d p : ℕ) : Type 0 where
  pub digit : p < 4
  pub after : (4 * m + p) * 4 ^ d ≤ x
  pub before : x < (4 * m + p) * 4 ^ d + 4 ^ d

in_child : (x m d : ℕ) → m * 4 ^ suc d ≤ x → x < m * 4 ^ suc d + 4 ^ suc d → InChild x m d (x / 4 ^ d - 4 * m)
in_child x m d a b =
    let D = 4 ^ d in
    let e = pow-suc 4 d in
    let em : m * 4 ^ suc d ≡ 4 * m * D = ap (λ z. m * z) e ∙ omega arith in
    let s = div-add-mod' x D in
    let r = mod_below x D (four_pos d) in
    let q = x / D in
    let low : 4 * m ≤ q = ⊎_elim (λ (w : q < 4 * m).
    absurd (let k = mul-le-mul_right {m = suc q} {n = 4 * m} D w in omega arith)) (λ (w : 4 * m ≤ q). w)
    (cases_lt q (4 * m)) in
    let high : q < 4 * m + 4 = ⊎_elim (λ (w : q < 4 * m + 4). w)
    (λ (w : 4 * m + 4 ≤ q). absurd (let k = mul-le-mul_right {m = 4 * m + 4} {n = q} D w in omega arith))
    (cases_lt q (4 * m + 4)) in
    let back : 4 * m + (q - 4 * m) ≡ q = omega arith in
    let prod : (4 * m + (q - 4 * m)) * D ≡ q * D = ap (λ z. z * D) back in
    record { digit = omega arith; after = omega arith; before = omega arith }

-- a set with no cells has no leaf
pub form_zero : (S : ℕ → Bool) (g e m : ℕ) → IsAligned S g → length (form S g e m) ≡ 0 → (x : ℕ) →
    m * 4 ^ (g + e) ≤ x → x < m * 4 ^ (g + e) + 4 ^ (g + e) → S x ≡ false
unfolding form
form_zero S g zero m al h x a b =
    let e0 : g + 0 ≡ g = omega arith in
    let a1 = rw e0 at a in
    let b1 = rw e0 at b in
    ⊎_elim
    (λ (t : filled S (m * 4 ^ g) (4 ^ g) ≡ true).
    let k = ap length (cond-true (filled S (m * 4 ^ g) (4 ^ g)) (cell_at g m ∷ []) [] t) in absurd (omega arith))
    (λ (f : filled S (m * 4 ^ g) (4 ^ g) ≡ false). false_from_ne_true
    (S x) (λ t. both_ways (filled S (m * 4 ^ g) (4 ^ g))
    f (filled_from S (m * 4 ^ g) (4 ^ g) (λ y c d. al y x (block_here y m g c d ∙ sym (block_here x m g a1 b1)) ∙ t))))
    (cases_Bool (filled S (m * 4 ^ g) (4 ^ g)))
form_zero S g (suc e) m al h x a b =
    let e1 : g + suc e ≡ suc (g + e) = omega arith in
    let w = in_child x m (g + e) (rw e1 at a) (rw e1 at b) in
    let p = x / 4 ^ (g + e) - 4 * m in
    ⊎_elim
    (λ (t : filled S (m * 4 ^ (g + suc e)) (4 ^ (g + suc e)) ≡ true).
    let k = ap length (cond-true (filled S (m * 4 ^ (g + suc e)) (4 ^ (g + suc e))) (cell_at (g + suc e) m ∷ [])
    (joined (λ p. form S g e (4 * m + p)) 4) t) in absurd (omega arith))
    (λ (f : filled S (m * 4 ^ (g + suc e)) (4 ^ (g + suc e)) ≡ false).
    let k = ap length (cond-false (filled S (m * 4 ^ (g + suc e)) (4 ^ (g + suc e))) (cell_at (g + suc e) m ∷ [])
    (joined (λ p. form S g e (4 * m + p)) 4) f) in
    let part = joined_part (λ p. form S g e (4 * m + p)) 4 p w.digit in
    form_zero S g e (4 * m + p) al (omega arith) x w.after w.before)
    (cases_Bool (filled S (m * 4 ^ (g + suc e)) (4 ^ (g + suc e))))

-- a cell that isn't outside has cells
pub form_some : (S : ℕ → Bool) (g d m : ℕ) → g ≤ d → IsAligned S g →
    (((x : ℕ) → m * 4 ^ d ≤ x → x < m * 4 ^ d + 4 ^ d → S x ≡ false) → ⊥) → 0 < length (form S g (d - g) m)
form_some S g d m hg al h =
    let e : g + (d - g) ≡ d = omega arith in
    ⊎_elim (λ (w : 0 < length (form S g (d - g) m)). w)
    (λ (w : length (form S g (d - g) m) ≤ 0).
    let z : length (form S g (d - g) m) ≡ 0 = omega arith in
    absurd (h (λ x a b. form_zero S g (d - g) m al z x (subst (λ (k : ℕ). m * 4 ^ k ≤ x) (sym e) a)
    (subst (λ (k : ℕ). x < m * 4 ^ k + 4 ^ k) (sym e) b))))
    (cases_lt 0 (length (form S g (d - g) m)))

-- ---- the count

-- the looks of the visits of `n` children with `cells` cells in all, `t` levels above the grain's
pub record Counted (before looks n cells t : ℕ) : Type 0 where
  pub upper : looks ≤ before + 1 + n + 4 * t * cells
  pub lower : before + cells ≤ looks

pub counted_next : {before looks : ℕ} (next : ℕ) {n cells : ℕ} (more : ℕ) {t : ℕ} → Counted before looks n cells t →
    next ≤ looks + 1 + 4 * t * more → looks + more ≤ next → Counted before next (n + 1) (cells + more) t
counted_next next more c up low = let a = c.upper in let b = c.lower in
    record { upper = omega arith; lower = omega arith }

-- a cell above the grain that isn't outside: `1 + 4 * (t + 1) * cells`
pub counted_all : {before looks cells t : ℕ} →
    0 < cells → Counted before looks 4 cells t → looks ≤ before + 1 + 4 * (t + 1) * cells
counted_all h c = let a = c.upper in omega arith

-- the same if the search stopped in the child after `n` others, with room for `free` more cells
pub counted_stop : {before looks : ℕ} (next : ℕ) {n cells t : ℕ} (free : ℕ) → n < 4 → cells ≤ free → Counted before
    looks n cells t → next ≤ looks + 1 + 4 * t * (free + 1 - cells) → next ≤ before + 1 + 4 * (t + 1) * (free + 1)
counted_stop next {cells} {t} free hn hc c up =
    let a = c.upper in
    let e : cells + (free + 1 - cells) ≡ free + 1 = omega arith in
    let p : 4 * t * (cells + (free + 1 - cells)) ≡ 4 * t * (free + 1) = ap (λ z. 4 * t * z) e in
    omega arith

-- after the visits of `n` children: the list and the count
pub record Sought (S : ℕ → Bool) (g d m n : ℕ) (old now : List ℕ) (now_len before looks max : ℕ) : Type 0 where
  pub list : now ≡ old ++ joined (λ p. form S g (d - 1 - g) (4 * m + p)) n
  pub room : now_len ≤ max
  pub count : Counted before looks n (length (joined (λ p. form S g (d - 1 - g) (4 * m + p)) n)) (d - 1 - g)

-- a cell that crosses an aligned set lies above the grain
cross_above : (S : ℕ → Bool) (g c : ℕ) → IsAligned S g → g ≤ depth_of c → (((x : ℕ) → covers c x ≡ true → S x ≡ false) →
    ⊥) → (((x : ℕ) → covers c x ≡ true → S x ≡ true) → ⊥) → g < depth_of c
cross_above S g c al hg none all =
    let d = depth_of c in
    let m = place_of c in
    ⊎_elim (λ (w : g < d). w)
    (λ (w : d ≤ g).
    let e : d ≡ g = omega arith in
    let lo = m * 4 ^ d in
    let hG = four_pos d in
    let here : lo / 4 ^ d ≡ m = block_here lo m d (omega arith) (omega arith) in
    let same : (x : ℕ) → covers c x ≡ true → S x ≡ S lo =
    (λ x k. let l = leaf_at c x k in
    al x lo (subst (λ (z : ℕ). x / 4 ^ z ≡ lo / 4 ^ z) e (block_here x m d l.0 l.1 ∙ sym here))) in
    ⊎_elim (λ (t : S lo ≡ true). absurd (all (λ x k. same x k ∙ t)))
    (λ (f : S lo ≡ false). absurd (none (λ x k. same x k ∙ f))) (cases_Bool (S lo)))
    (cases_lt g d)

not_whole : (S : ℕ → Bool) (c : ℕ) → (((x : ℕ) → covers c x ≡ true → S x ≡ true) → ⊥) →
    filled S (place_of c * 4 ^ depth_of c) (4 ^ depth_of c) ≡ false
not_whole S c h = false_from_ne_true (filled S (place_of c * 4 ^ depth_of c) (4 ^ depth_of c))
    (λ f. h (λ x k. let l = leaf_at c x k in filled_each S (place_of c * 4 ^ depth_of c) (4 ^ depth_of c) f x l.0 l.1))

some_cells : (S : ℕ → Bool) (g c : ℕ) → IsAligned S g → g ≤ depth_of c →
    (((x : ℕ) → covers c x ≡ true → S x ≡ false) → ⊥) → 0 < length (form S g (depth_of c - g) (place_of c))
some_cells S g c al hg h = form_some S g (depth_of c) (place_of c) hg al
    (λ f. h (λ x k. let l = leaf_at c x k in f x l.0 l.1))

-- a cell that crosses the set lies above the grain, isn't held whole, and has cells of the set in it
pub record Crossed (S : ℕ → Bool) (g c : ℕ) : Type 0 where
  pub above : g < depth_of c
  pub part : filled S (place_of c * 4 ^ depth_of c) (4 ^ depth_of c) ≡ false
  pub some : 0 < length (form S g (depth_of c - g) (place_of c))

pub crossed : (S : ℕ → Bool) (g c : ℕ) → IsAligned S g → g ≤ depth_of c → (Cross ≡ Out) ↔ LiesOutside S c →
    (Cross ≡ In) ↔ LiesIn S c → Crossed S g c
crossed S g c al hg out inside =
    let none : LiesOutside S c → ⊥ = λ h. let e = out.1 h in cc in
    let all : LiesIn S c → ⊥ = λ h. let e = inside.1 h in cc in
    record { above = cross_above S g c al hg none all; part = not_whole S c all; some = some_cells S g c al hg none }

-- the greatest cells in a cell outside the set, and in one inside it
pub none_in : (S : ℕ → Bool) (g c : ℕ) → g ≤ depth_of c → LiesOutside S c → form S g (depth_of c - g) (place_of c) ≡ []
none_in S g c hg h = form_none_at S g (depth_of c) (place_of c) hg (λ x a b. h x (covers_at c x a b))

pub one_in : (S : ℕ → Bool) (g c : ℕ) → g ≤ depth_of c → IsCell c → LiesIn S c →
    form S g (depth_of c - g) (place_of c) ≡ c ∷ []
one_in S g c hg i h = (whole_from S g (depth_of c) (place_of c) hg (λ x a b. h x (covers_at c x a b))).cells
    ∙ ap (λ z. z ∷ []) (id_of i)

pub sought_none : (S : ℕ → Bool) (g d m : ℕ) (old : List ℕ) (len before looks max : ℕ) → len ≤ max →
    looks ≡ before + 1 → Sought S g d m 0 old old len before looks max
unfolding joined
sought_none S g d m old len before looks max h e =
    record { list = sym (append-nil old); room = h; count = record { upper = omega arith; lower = omega arith } }

pub sought_next : {S : ℕ → Bool} {g d m n : ℕ} {old now : List ℕ} (new : List ℕ) {now_len : ℕ} (new_len : ℕ)
    {before looks : ℕ} (next : ℕ) {max : ℕ} (k p : ℕ) → k + 1 ≡ d → p ≡ 4 * m + n → Sought S g d m n old now now_len
    before looks max → new ≡ now ++ form S g (k - g) p → new_len ≤ max → next ≤ looks + 1 + 4 * (k - g) * length (form
    S g (k - g) p) → looks + length (form S g (k - g) p) ≤ next → Sought S g d m (n + 1) old new new_len before next max
sought_next {S} {g} {d} {m} {n} {old} {now} new new_len {before} {looks} next k p hk hp s e room up low =
    let ek : k ≡ d - 1 = omega arith in
    let f = λ (z : ℕ). form S g (d - 1 - g) (4 * m + z) in
    let len : length (joined f (n + 1)) ≡ length (joined f n) + length (f n) = ap length (joined_more f n)
    ∙ length-append (joined f n) (f n) in
    let list = list_next S g d m n old now new s.list (rw (ek, hp) at e) in
    let c = counted_next next (length (f n)) s.count (rw (ek, hp) at up) (rw (ek, hp) at low) in
    record { list = list; room = room; count = rw len c }

pub record Found (S : ℕ → Bool) (g d m : ℕ) (old now : List ℕ) (before looks : ℕ) : Type 0 where
  pub list : now ≡ old ++ form S g (d - g) m
  pub most : looks ≤ before + 1 + 4 * (d - g) * length (form S g (d - g) m)
  pub least : before + length (form S g (d - g) m) ≤ looks

pub sought_all : {S : ℕ → Bool} {g c n : ℕ} {old now : List ℕ} {now_len before looks max : ℕ} → n ≡ 4 → Crossed S g c →
    Sought S g (depth_of c) (place_of c) n old now now_len before looks max →
    Found S g (depth_of c) (place_of c) old now before looks
sought_all {S} {g} {c = cell} {old} {before} {looks} hn cross s =
    let d = depth_of cell in
    let above = cross.above in
    let kids = form_children S g d (place_of cell) above cross.part in
    let s4 = rw hn at s in
    let t = d - 1 - g in
    let et : d - g ≡ t + 1 = omega arith in
    let c = s4.count in
    let len = ap length kids in
    let some4 = rw kids at cross.some in
    let up = counted_all some4 c in
    let low = c.lower in
    record {
      list = s4.list ∙ ap (λ z. old ++ z) (sym kids);
      most = rw (len, et) up;
      least = rw len low;
    }

-- where a child's visit stopped, or is about to begin
pub sought_stop : {S : ℕ → Bool} {g d m n : ℕ}
    {old now : List ℕ} (old_len : ℕ) {now_len before looks : ℕ} (next : ℕ) {max : ℕ} (k : ℕ) → n < 4 → g < d →
    k + 1 ≡ d → old_len ≡ length old → now_len ≡ length now → Sought S g d m n old now now_len before looks max →
    next ≤ looks + 1 + 4 * (k - g) * (max - now_len + 1) → next ≤ before + 1 + 4 * (d - g) * (max - old_len + 1)
sought_stop {S} {g} {d} {m} {n} {old} {now} old_len {now_len} {before} {looks} next {max} k hn hg hk eo en s up =
    let f = λ (z : ℕ). form S g (d - 1 - g) (4 * m + z) in
    let len : length now ≡ length old + length (joined f n) = ap length s.list ∙ length-append old (joined f n) in
    let room = s.room in
    let cells = length (joined f n) in
    let t = d - 1 - g in
    let free = max - old_len in
    let ek : k - g ≡ t = omega arith in
    let et : d - g ≡ t + 1 = omega arith in
    let er : max - now_len + 1 ≡ free + 1 - cells = omega arith in
    rw et (counted_stop next free hn (omega arith) s.count (rw (ek, er) at up))

pub sought_many : {S : ℕ → Bool} {g d m n : ℕ} {old now : List ℕ} (old_len : ℕ)
    {now_len before looks max : ℕ} (k p : ℕ) → n < 4 → g < d → k + 1 ≡ d → p ≡ 4 * m + n → old_len ≡ length old →
    now_len ≡ length now → filled S (m * 4 ^ d) (4 ^ d) ≡ false → Sought S g d m n old now now_len before looks max →
    max < now_len + length (form S g (k - g) p) → max < old_len + length (form S g (d - g) m)
sought_many {S} {g} {d} {m} {n} {old} {now} old_len k p hn hg hk hp eo en lacks s h =
    let f = λ (z : ℕ). form S g (d - 1 - g) (4 * m + z) in
    let len : length now ≡ length old + length (joined f n) = ap length s.list ∙ length-append old (joined f n) in
    let more : length (joined f (n + 1)) ≡ length (joined f n) + length (f n) = ap length (joined_more f n)
    ∙ length-append (joined f n) (f n) in
    let grow = joined_grows f (n + 1) 4 (omega arith) in
    let ek : k ≡ d - 1 = omega arith in
    let h1 = rw (ek, hp) at h in
    let kids = ap length (form_children S g d m hg lacks) in
    omega arith

pub on_ok_more : {T E : Type 0} (r : Result T E) (xs ys f : List ℕ) (c : ℕ) → f ≡ c ∷ [] →
    IfOk r (λ _. ys ≡ xs ++ c ∷ []) → IfOk r (λ _. ys ≡ xs ++ f)
on_ok_more r xs ys f c e h = IfOk-weaker r (λ _. ys ≡ xs ++ c ∷ []) (λ _. ys ≡ xs ++ f)
    (λ x p. p ∙ ap (λ z. xs ++ z) (sym e)) h

pub on_ok_count : {T E : Type 0} (r : Result T E) (P : T → Type 0) (a b : ℕ) (f : List ℕ) (c : ℕ) → f ≡ c ∷ [] →
    b ≡ a + 1 → IfOk r P → IfOk r (λ _. a + length f ≤ b)
on_ok_count r P a b f c e eb h = IfOk-weaker r P (λ _. a + length f ≤ b) (λ x p. let k = ap length e in omega arith) h

pub err_more : {T E : Type 0} (r : Result T E) (many : E) (max n : ℕ) (f : List ℕ) (c : ℕ) → f ≡ c ∷ [] →
    IfErr r (λ fault. fault ≡ many → max < n + 1) → IfErr r (λ fault. fault ≡ many → max < n + length f)
err_more r many max n f c e h = IfErr-weaker r (λ fault. fault ≡ many → max < n + 1) (λ fault. fault ≡ many →
    max < n + length f) (λ y p same. let l = p same in let k = ap length e in omega arith) h

-- a child of a cell that crosses an aligned set
-- the child by its own name
pub record Kid (c k p : ℕ) : Type 0 where
  pub depth : depth_of k + 1 ≡ depth_of c
  pub place : place_of k ≡ 4 * place_of c + p

pub kid : {S : ℕ → Bool} {g c : ℕ} (k p : ℕ) → IsCell c → Crossed S g c → p < 4 → k ≡ child_of c p → Kid c k p
kid {c} k p i w hp e =
    let above = w.above in
    let at = child_at p i (omega arith) hp in
    record { depth = rw e at.depth; place = rw e at.place }

-- ---- a search in each cell of a list

-- after the searches in `n` cells, each at most `t` levels above the grain, with `cells` cells in all
pub record Added (before looks n cells t : ℕ) : Type 0 where
  pub upper : looks ≤ before + n + 4 * t * cells
  pub lower : before + cells ≤ looks

pub added_next : {before looks : ℕ} (next : ℕ) {n cells : ℕ} (more s : ℕ) {t : ℕ} → s ≤ t → Added before
    looks n cells t → next ≤ looks + 1 + 4 * s * more → looks + more ≤ next → Added before next (n + 1) (cells + more) t
added_next next {n} more s {t} h c up low =
    let a = c.upper in
    let b = c.lower in
    let less = mul-le-mul_right {m = 4 * s} {n = 4 * t} more (omega arith) in
    record { upper = omega arith; lower = omega arith }

-- a search that stops, or is about to begin, with `cells` cells so far
pub added_stop : {before looks : ℕ} (next : ℕ) {n cells : ℕ} (s : ℕ) {t : ℕ} (max : ℕ) {count : ℕ} → s ≤ t →
    cells ≤ max → n < count → Added before looks n cells t → next ≤ looks + 1 + 4 * s * (max - cells + 1) →
    next ≤ before + count + 4 * t * (max + 1)
added_stop next {cells} s {t} max h hc hn c up =
    let a = c.upper in
    let less = mul-le-mul_right {m = 4 * s} {n = 4 * t} (max - cells + 1) (omega arith) in
    let e : cells + (max - cells + 1) ≡ max + 1 = omega arith in
    let p : 4 * t * (cells + (max - cells + 1)) ≡ 4 * t * (max + 1) = ap (λ z. 4 * t * z) e in
    omega arith
