-- Rectangles rounded to the grid of a level.
use Rattle.std.proofs.Common.{◌≡◌, ℕ, ◌+◌, ◌-◌, ◌*◌, ◌/◌, ◌%◌, ◌^◌, ◌<◌, ◌≤◌, Bool, true}
use Rattle.std.proofs.Common.{false, ◌&&◌, nat_lt, refl, sym, ◌∙◌, ap, arith, ◌⊎◌, ⊎_elim}
use Rattle.std.proofs.lemmas.Bool.{and_right, lt-ltb, both_ways, true_from_ne_false, false_from_ne_true}
use Rattle.std.proofs.lemmas.Nat.{div-add-mod', mod_below, pow_pos, pow-add}
use Rattle.s2cell.specs.Curve.{i_of, j_of}
use Rattle.s2cell.proofs.Levels.{at_bounds}
use Rattle.s2cell.proofs.Places.{place_is}
use Rattle.s2cell.proofs.Squares.{in_block, block_of}
use Rattle.s2cell.proofs.CellLemmas.{four_pos}
use Rattle.s2cell.specs.Rectangles.{Rect, IsRect, rect_set}
use Rattle.s2cell.specs.declared.TheConstants.{LEAVES}
use Rattle.s2cell.proofs.Rectangles.{in_rect, in_rect_from}
use Rattle.s2cover.specs.Coverings.{touched, outer_set, inner_set}
use Rattle.s2cover.specs.Working.Descent.{blocks, IsAligned}
use Rattle.s2cover.proofs.Runs.{filled_each, filled_from, touched_none, block_here}
use Rattle.s2cover.proofs.Coverings.{touched_some}
use Rattle.s2cover.proofs.Formed.{blocks_aligned}
use Rattle.s2cover.proofs.Squares.{Narrowed, Rounded, block_leaf, in_from, in_to, out_from, out_to, quotient_below}
use Rattle.s2cover.proofs.Squares.{same_bool, same_square, times}

-- the leaves of a block
pub block_leaves : (g x y : ℕ) → x / 4 ^ g * 4 ^ g ≤ y → y < x / 4 ^ g * 4 ^ g + 4 ^ g → y / 4 ^ g ≡ x / 4 ^ g
block_leaves g x y a b = block_here y (x / 4 ^ g) g a b

pub leaf_in_block : (g x y : ℕ) → y / 4 ^ g ≡ x / 4 ^ g → (x / 4 ^ g * 4 ^ g ≤ y) × (y < x / 4 ^ g * 4 ^ g + 4 ^ g)
leaf_in_block g x y e = in_block y (x / 4 ^ g) (4 ^ g) e (four_pos g)

-- the rectangle rounded outwards has the leaves of the blocks that share a leaf with it
pub widened_set : {r : Rect} (t : Rect) (g : ℕ) → g ≤ 30 → IsRect r → t.face ≡ r.face → Rounded r.i0
    r.i1 t.i0 t.i1 (2 ^ g) → Rounded r.j0 r.j1 t.j0 t.j1 (2 ^ g) → (x : ℕ) → rect_set t x ≡ blocks true (rect_set r) g x
widened_set {r} t g h ok ef ri rj x =
    let s = 2 ^ g in
    let hs = pow_pos g in
    let lo = x / 4 ^ g * 4 ^ g in
    same_bool (rect_set t x) (touched (rect_set r) lo (4 ^ g))
    (λ a.
    let w = (in_rect t x (x / 4 ^ 30) (i_of x) (j_of x) (place_is x)).0 a in
    let u = out_from (i_of x) hs ok.i.0 ri w.along.0 w.along.1 in
    let v = out_from (j_of x) hs ok.j.0 rj w.across.0 w.across.1 in
    let oi = ok.i.1 in
    let oj = ok.j.1 in
    let ui = u.high in
    let vj = v.high in
    let leaf = block_leaf g x u.at_place v.at_place h (omega arith) (omega arith) u.block v.block in
    let in_r = (in_rect r leaf.leaf (x / 4 ^ 30) u.at_place v.at_place leaf.place).1
    (record { on = w.on ∙ ef; along = (u.low, u.high); across = (v.low, v.high) }) in
    let b = leaf_in_block g x leaf.leaf leaf.block in
    true_from_ne_false (touched (rect_set r) lo (4 ^ g))
    (λ f. both_ways (rect_set r leaf.leaf) (touched_none (rect_set r) lo (4 ^ g) f leaf.leaf b.0 b.1) in_r))
    (λ a.
    let y = touched_some (rect_set r) lo (4 ^ g) a in
    let q = same_square g x y.leaf h (block_leaves g x y.leaf y.after y.before) in
    let w = (in_rect r y.leaf (y.leaf / 4 ^ 30) (i_of y.leaf) (j_of y.leaf) (place_is y.leaf)).0 y.holds in
    (in_rect t x (x / 4 ^ 30) (i_of x) (j_of x) (place_is x)).1 (record {
      on = sym q.face ∙ w.on ∙ sym ef;
      along = out_to (i_of y.leaf) (i_of x) hs ri w.along.0 w.along.1 q.first;
      across = out_to (j_of y.leaf) (j_of x) hs rj w.across.0 w.across.1 q.second;
    }))

-- the corners of the grid's square around a leaf are places of the face
corner_below : (g v : ℕ) → g ≤ 30 → v < 2 ^ 30 → v / 2 ^ g * 2 ^ g + 2 ^ g ≤ 2 ^ 30
corner_below g v h l =
    let e : 30 ≡ (30 - g) + g = omega arith in
    let p : 2 ^ 30 ≡ 2 ^ (30 - g) * 2 ^ g = ap (λ z. 2 ^ z) e ∙ pow-add 2 (30 - g) g in
    let q : v / 2 ^ g < 2 ^ (30 - g) = quotient_below (2 ^ (30 - g)) v (2 ^ g) (pow_pos g) (omega arith) in
    let t = times (v / 2 ^ g + 1) (2 ^ (30 - g)) (2 ^ g) (omega arith) in
    omega arith

-- what the rectangle rounded inwards says of a leaf
pub record Inwards (r : Rect) (i0 i1 j0 j1 g x : ℕ) : Type 0 where
  pub on : x / 4 ^ 30 ≡ r.face
  pub along : (i0 ≤ i_of x) × (i_of x < i1)
  pub across : (j0 ≤ j_of x) × (j_of x < j1)

pub inwards_from : (r : Rect) {i0 i1 j0 j1 : ℕ} (g x : ℕ) → g ≤ 30 → Narrowed r.i0 r.i1 i0 i1 (2 ^ g) →
    Narrowed r.j0 r.j1 j0 j1 (2 ^ g) → blocks false (rect_set r) g x ≡ true → Inwards r i0 i1 j0 j1 g x
inwards_from r {i0} {i1} {j0} {j1} g x h ri rj a =
    let s = 2 ^ g in
    let hs = pow_pos g in
    let lo = x / 4 ^ g * 4 ^ g in
    let b = at_bounds 30 (x / 4 ^ 30 % 2) (x % 4 ^ 30) (i_of x) (j_of x) (place_is x).at in
    let ci = corner_below g (i_of x) h b.first in
    let cj = corner_below g (j_of x) h b.second in
    let qi = i_of x / s in
    let qj = j_of x / s in
    let low = block_leaf g x (qi * s) (qj * s) h (omega arith) (omega arith)
    (block_of (qi * s) qi s (omega arith) (omega arith)) (block_of (qj * s) qj s (omega arith) (omega arith)) in
    let high = block_leaf g x (qi * s + (s - 1)) (qj * s + (s - 1)) h (omega arith) (omega arith)
    (block_of (qi * s + (s - 1)) qi s (omega arith) (omega arith))
    (block_of (qj * s + (s - 1)) qj s (omega arith) (omega arith)) in
    let bl = leaf_in_block g x low.leaf low.block in
    let bh = leaf_in_block g x high.leaf high.block in
    let wl = (in_rect r low.leaf (x / 4 ^ 30) (qi * s) (qj * s) low.place).0
    (filled_each (rect_set r) lo (4 ^ g) a low.leaf bl.0 bl.1) in
    let wh = (in_rect r high.leaf (x / 4 ^ 30) (qi * s + (s - 1)) (qj * s + (s - 1)) high.place).0
    (filled_each (rect_set r) lo (4 ^ g) a high.leaf bh.0 bh.1) in
    record {
      on = wl.on;
      along = in_to (i_of x) hs ri wl.along.0 wh.along.1;
      across = in_to (j_of x) hs rj wl.across.0 wh.across.1;
    }

pub inwards_to : {r : Rect} {i0 i1 j0 j1 g x : ℕ} → g ≤ 30 → Narrowed r.i0 r.i1 i0 i1 (2 ^ g) →
    Narrowed r.j0 r.j1 j0 j1 (2 ^ g) → Inwards r i0 i1 j0 j1 g x → blocks false (rect_set r) g x ≡ true
inwards_to {r} {i0} {i1} {j0} {j1} {g} {x} h ri rj w =
    let s = 2 ^ g in
    let hs = pow_pos g in
    let lo = x / 4 ^ g * 4 ^ g in
    filled_from (rect_set r) lo (4 ^ g) (λ y a b.
    let q = same_square g x y h (block_leaves g x y a b) in
    (in_rect r y (y / 4 ^ 30) (i_of y) (j_of y) (place_is y)).1 (record {
      on = q.face ∙ w.on;
      along = in_from (i_of y) (i_of x) hs ri w.along.0 w.along.1 q.first;
      across = in_from (j_of y) (j_of x) hs rj w.across.0 w.across.1 q.second;
    }))

-- the rectangle rounded inwards has the leaves of the blocks that lie inside it
pub narrowed_set : (r t : Rect) (g : ℕ) → g ≤ 30 → t.face ≡ r.face → Narrowed r.i0 r.i1 t.i0 (t.i1 + 1) (2 ^ g) →
    Narrowed r.j0 r.j1 t.j0 (t.j1 + 1) (2 ^ g) → (x : ℕ) → rect_set t x ≡ blocks false (rect_set r) g x
narrowed_set r t g h ef ri rj x =
    same_bool (rect_set t x) (blocks false (rect_set r) g x)
    (λ a.
    let w = (in_rect t x (x / 4 ^ 30) (i_of x) (j_of x) (place_is x)).0 a in
    let i = w.along in
    let j = w.across in
    let ih = i.1 in
    let jh = j.1 in
    inwards_to h ri rj (record { on = w.on ∙ ef; along = (i.0, omega arith); across = (j.0, omega arith) }))
    (λ a.
    let w = inwards_from r g x h ri rj a in
    let i = w.along in
    let j = w.across in
    let ih = i.1 in
    let jh = j.1 in
    (in_rect t x (x / 4 ^ 30) (i_of x) (j_of x) (place_is x)).1
    (record { on = w.on ∙ sym ef; along = (i.0, omega arith); across = (j.0, omega arith) }))

-- if nothing is left of a side, no block lies inside
pub narrowed_none : (r : Rect) {i0 i1 j0 j1 : ℕ} (g : ℕ) → g ≤ 30 → Narrowed r.i0 r.i1 i0 i1 (2 ^ g) →
    Narrowed r.j0 r.j1 j0 j1 (2 ^ g) → (i1 ≤ i0) ⊎ (j1 ≤ j0) → (x : ℕ) → blocks false (rect_set r) g x ≡ false
narrowed_none r {i0} {i1} {j0} {j1} g h ri rj e x =
    false_from_ne_true (blocks false (rect_set r) g x) (λ a.
    let w = inwards_from r g x h ri rj a in
    let il = w.along.0 in
    let ih = w.along.1 in
    let jl = w.across.0 in
    let jh = w.across.1 in
    ⊎_elim (λ (k : i1 ≤ i0). absurd (omega arith)) (λ (k : j1 ≤ j0). absurd (omega arith)) e)

-- ---- what the calls answer

bounded : (l b : Bool) → (b ≡ true → l ≡ true) → b ≡ (l && b)
bounded true b h = refl
bounded false true h = absurd (both_ways false refl (h refl))
bounded false false h = refl

in_limit : (r : Rect) (x : ℕ) → r.face ≤ 5 → rect_set r x ≡ true → nat_lt x LEAVES ≡ true
in_limit r x h t =
    let w = (in_rect_from r x t).on in
    let e = div-add-mod' x (4 ^ 30) in
    let m = mod_below x (4 ^ 30) (four_pos 30) in
    lt-ltb x LEAVES (omega arith)

same_on_leaves : (t : Rect) (S : ℕ → Bool) (x : ℕ) → t.face ≤ 5 → rect_set t x ≡ S x →
    rect_set t x ≡ (nat_lt x LEAVES && S x)
same_on_leaves t S x h e = e ∙ bounded (nat_lt x LEAVES) (S x) (λ s. in_limit t x h (e ∙ s))

pub widened_outer : {r : Rect} (t : Rect) (k : ℕ) → IsRect r → t.face ≡ r.face → Rounded r.i0 r.i1 t.i0 t.i1
    (2 ^ (30 - k)) → Rounded r.j0 r.j1 t.j0 t.j1 (2 ^ (30 - k)) → (x : ℕ) → rect_set t x ≡ outer_set (rect_set r) k x
unfolding outer_set
widened_outer {r} t k ok ef ri rj x =
    let f = ok.face in
    same_on_leaves t (blocks true (rect_set r) (30 - k)) x (omega arith)
    (widened_set t (30 - k) (omega arith) ok ef ri rj x)

pub narrowed_inner : (r t : Rect) (k : ℕ) → r.face ≤ 5 → t.face ≡ r.face → Narrowed r.i0 r.i1 t.i0 (t.i1 + 1) (2 ^
    (30 - k)) → Narrowed r.j0 r.j1 t.j0 (t.j1 + 1) (2 ^ (30 - k)) → (x : ℕ) → rect_set t x ≡ inner_set (rect_set r) k x
unfolding inner_set
narrowed_inner r t k f ef ri rj x =
    same_on_leaves t (blocks false (rect_set r) (30 - k)) x (omega arith)
    (narrowed_set r t (30 - k) (omega arith) ef ri rj x)

pub narrowed_empty : (r : Rect) {i0 i1 j0 j1 : ℕ} (k : ℕ) → Narrowed r.i0 r.i1 i0 i1 (2 ^ (30 - k)) →
    Narrowed r.j0 r.j1 j0 j1 (2 ^ (30 - k)) → (i1 ≤ i0) ⊎ (j1 ≤ j0) → (x : ℕ) → inner_set (rect_set r) k x ≡ false
unfolding inner_set
narrowed_empty r {i0} {i1} {j0} {j1} k ri rj e x = and_right
    (nat_lt x LEAVES) (blocks false (rect_set r) (30 - k) x) (narrowed_none r (30 - k) (omega arith) ri rj e x)

aligned_by : (S T : ℕ → Bool) (g : ℕ) → ((x : ℕ) → S x ≡ T x) → IsAligned T g → IsAligned S g
aligned_by S T g e al x y h = e x ∙ al x y h ∙ sym (e y)

pub widened_aligned : {r : Rect} (t : Rect) (k : ℕ) → IsRect r → t.face ≡ r.face → Rounded
    r.i0 r.i1 t.i0 t.i1 (2 ^ (30 - k)) → Rounded r.j0 r.j1 t.j0 t.j1 (2 ^ (30 - k)) → IsAligned (rect_set t) (30 - k)
widened_aligned {r} t k ok ef ri rj = aligned_by (rect_set t) (blocks true (rect_set r) (30 - k)) (30 - k)
    (widened_set t (30 - k) (omega arith) ok ef ri rj) (blocks_aligned true (rect_set r) (30 - k))

pub narrowed_aligned : (r t : Rect) (k : ℕ) → t.face ≡ r.face → Narrowed r.i0 r.i1 t.i0 (t.i1 + 1) (2 ^ (30 - k)) →
    Narrowed r.j0 r.j1 t.j0 (t.j1 + 1) (2 ^ (30 - k)) → IsAligned (rect_set t) (30 - k)
narrowed_aligned r t k ef ri rj = aligned_by (rect_set t) (blocks false (rect_set r) (30 - k)) (30 - k)
    (narrowed_set r t (30 - k) (omega arith) ef ri rj) (blocks_aligned false (rect_set r) (30 - k))

side_rounded : {lo hi lo2 hi2 : ℕ} (g : ℕ) →
    g ≤ 30 → lo ≤ hi → hi < 2 ^ 30 → Rounded lo hi lo2 hi2 (2 ^ g) → (lo2 ≤ hi2) × (hi2 < 2 ^ 30)
side_rounded {lo} {hi} g h a b r =
    let s = 2 ^ g in
    let hs = pow_pos g in
    let elo = div-add-mod' lo s in
    let ehi = div-add-mod' hi s in
    let rhi = mod_below hi s hs in
    let c = corner_below g hi h b in
    let l = r.low in
    let u = r.high in
    (omega arith, omega arith)

pub widened_rect : {r : Rect} (t : Rect) (k : ℕ) → IsRect r →
    t.face ≡ r.face → Rounded r.i0 r.i1 t.i0 t.i1 (2 ^ (30 - k)) → Rounded r.j0 r.j1 t.j0 t.j1 (2 ^ (30 - k)) → IsRect t
widened_rect {r} t k ok ef ri rj =
    let f = ok.face in
    record {
      face = omega arith;
      i = side_rounded (30 - k) (omega arith) ok.i.0 ok.i.1 ri;
      j = side_rounded (30 - k) (omega arith) ok.j.0 ok.j.1 rj;
    }
