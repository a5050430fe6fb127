-- Each leaf of a face has one place, and each place one leaf.
use Rattle.std.proofs.Common.{◌≡◌, ℕ, suc, zero, ◌+◌, ◌*◌, ◌/◌, ◌%◌, ◌^◌, ◌<◌, refl, sym, ◌∙◌, ap}
use Rattle.std.proofs.Common.{arith, subst, bit_xor}
use Rattle.std.proofs.Math.Nat.{pow-suc}
use Rattle.std.proofs.lemmas.Nat.{pow_pos, div_below, mod_below, div-add-mod'}
use Rattle.s2cell.specs.Curve.{At, IsPlaceOf, quadrant, turn, i_within, j_within, i_of, j_of}
use Rattle.s2cell.proofs.CellLemmas.{four_pos}
use Rattle.s2cell.proofs.Quadrants.{quadrant_below, turn_keeps, digit_of, digit_of_below, digit_of_quadrant}
use Rattle.s2cell.proofs.Quadrants.{quadrant_of_digit}
use Rattle.s2cell.proofs.Levels.{at_step, digit_below}

pub half_below : (k x : ℕ) → x < 2 ^ suc k → x / 2 ^ k < 2
half_below k x h = let e = pow-suc 2 k in let p = pow_pos k in div_below x (2 ^ k) 2 p (omega arith)

-- two numbers with one quotient and one rest
pub same_parts : (x u d : ℕ) → x / d ≡ u / d → x % d ≡ u % d → x ≡ u
same_parts x u d e f = sym (div-add-mod' x d) ∙ ap (λ z. z * d + x % d) e ∙ ap (λ z. u / d * d + z) f ∙ div-add-mod' u d

pub same_halves : (a b c d : ℕ) → b < 2 → d < 2 → 2 * a + b ≡ 2 * c + d → (a ≡ c) × (b ≡ d)
same_halves a b c d hb hd e = (omega arith, omega arith)

-- a leaf has one place
pub same_place : (k o n x y u v : ℕ) → At k o n x y → At k o n u v → (x ≡ u) × (y ≡ v)
unfolding At
same_place zero o n x y u v (a, b, c) (d, e, f) = (b ∙ sym e, c ∙ sym f)
same_place (suc k) o n x y u v (a, b, c, d, e) (a', b', c', d', e') =
    let halves = same_halves (x / 2 ^ k) (y / 2 ^ k) (u / 2 ^ k) (v / 2 ^ k) (half_below k y c) (half_below k v c')
    (d ∙ sym d') in
    let rests = same_place k (bit_xor o (turn (n / 4 ^ k))) (n % 4 ^ k) (x % 2 ^ k) (y % 2 ^ k) (u % 2 ^ k)
    (v % 2 ^ k) e e' in
    (same_parts x u (2 ^ k) halves.0 rests.0, same_parts y v (2 ^ k) halves.1 rests.1)

-- a place has one leaf
pub same_leaf : (k o n m x y : ℕ) → o < 4 → At k o n x y → At k o m x y → n ≡ m
unfolding At
same_leaf zero o n m x y ho (a, b, c) (d, e, f) = a ∙ sym d
same_leaf (suc k) o n m x y ho (a, b, c, d, e) (a', b', c', d', e') =
    let hn = digit_below k n a in
    let hm = digit_below k m a' in
    let top : n / 4 ^ k ≡ m / 4 ^ k = sym (digit_of_quadrant o (n / 4 ^ k) ho hn) ∙ ap (digit_of o) (sym d ∙ d')
    ∙ digit_of_quadrant o (m / 4 ^ k) ho hm in
    let low = same_leaf k (bit_xor o (turn (n / 4 ^ k))) (n % 4 ^ k) (m % 4 ^ k) (x % 2 ^ k) (y % 2 ^ k)
    (turn_keeps o (n / 4 ^ k) ho hn) e
    (subst (λ (z : ℕ). At k (bit_xor o (turn z)) (m % 4 ^ k) (x % 2 ^ k) (y % 2 ^ k)) (sym top) e') in
    same_parts n m (4 ^ k) top low

-- every leaf has a place
pub at_within : (k o n : ℕ) → o < 4 → n < 4 ^ k → At k o n (i_within k o n) (j_within k o n)
unfolding i_within j_within At
at_within zero o n ho hn = (omega arith, refl, refl)
at_within (suc k) o n ho hn =
    let hp = digit_below k n hn in
    let q = quadrant_below o (n / 4 ^ k) ho hp in
    let p = n / 4 ^ k in
    let Q = quadrant o p in
    let deep = at_within k (bit_xor o (turn p)) (n % 4 ^ k) (turn_keeps o p ho hp) (mod_below n (4 ^ k) (four_pos k)) in
    let s = at_step k o (n % 4 ^ k) (i_within k (bit_xor o (turn p)) (n % 4 ^ k))
    (j_within k (bit_xor o (turn p)) (n % 4 ^ k)) p (Q / 2) (Q % 2) hp (omega arith) (omega arith) (omega arith)
    deep in
    subst (λ (z : ℕ). At (suc k) o z (i_within (suc k) o n) (j_within (suc k) o n)) (div-add-mod' n (4 ^ k)) s

-- also of those of a face
pub place_is : (n : ℕ) → IsPlaceOf n (n / 4 ^ 30) (i_of n) (j_of n)
unfolding i_of j_of
place_is n = record { face_is = refl; at = at_within 30 (n / 4 ^ 30 % 2) (n % 4 ^ 30) (omega arith) (omega arith) }

-- every place has a leaf
pub leaf_exists : (k o x y : ℕ) → o < 4 → x < 2 ^ k → y < 2 ^ k → (n : ℕ) × At k o n x y
unfolding At
leaf_exists zero o x y ho hx hy = (0, (refl, omega arith, omega arith))
leaf_exists (suc k) o x y ho hx hy =
    let ha = half_below k x hx in
    let hb = half_below k y hy in
    let q = 2 * (x / 2 ^ k) + y / 2 ^ k in
    let hq : q < 4 = omega arith in
    let p = digit_of o q in
    let hp = digit_of_below o q ho hq in
    let deep = leaf_exists k (bit_xor o (turn p)) (x % 2 ^ k) (y % 2 ^ k) (turn_keeps o p ho hp)
    (mod_below x (2 ^ k) (pow_pos k)) (mod_below y (2 ^ k) (pow_pos k)) in
    let s = at_step k o deep.0 (x % 2 ^ k) (y % 2 ^ k) p (x / 2 ^ k) (y / 2 ^ k) hp ha hb
    (sym (quadrant_of_digit o q ho hq)) deep.1 in
    (p * 4 ^ k + deep.0, rw (div-add-mod' x (2 ^ k), div-add-mod' y (2 ^ k)) at s)
