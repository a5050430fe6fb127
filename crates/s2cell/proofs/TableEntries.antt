-- Every entry of the tables, by a test that computes.
use Rattle.std.proofs.Common.{◌≡◌, ℕ, suc, zero, ◌+◌, ◌*◌, ◌/◌, ◌%◌, ◌^◌, ◌<◌, Bool, true, ◌&&◌}
use Rattle.std.proofs.Common.{◌==◌, bit_xor, List, [], ◌∷◌, length, get_or, refl, sym, arith, ap, subst, eqb-true}
use Rattle.std.proofs.Math.Nat.{div-one}
use Rattle.std.proofs.lemmas.Nat.{pow_pos, mod_below, div-add-mod'}
use Rattle.std.proofs.lemmas.Bool.{and_parts}
use Rattle.s2cell.specs.declared.tables.TheConstants.{PLACE_STEPS, LEAF_STEPS, PLACES, LEAVES}
use Rattle.s2cell.specs.Curve.{At, orientation_after, quadrant, quadrants, turn}
use Rattle.s2cell.specs.Working.Entries.{IsPlaceEntry, IsLeafEntry, held}
use Rattle.s2cell.proofs.CellLemmas.{four_pos}
use Rattle.s2cell.proofs.Quadrants.{four_cases}
use Rattle.s2cell.proofs.Levels.{at_bounds}

-- leaf `n` of a square with sides of `2 ^ k`, entered at the orientation `o`, is at `x`, `y`, and `s` is sixteen times
-- the orientation after it
unfoldable pub way_test : ℕ → ℕ → ℕ → ℕ → ℕ → ℕ → Bool
way_test zero o n x y s = s == 16 * o
way_test (suc k) o n x y s = (2 * (x / 2 ^ k) + y / 2 ^ k == quadrant o (n / 4 ^ k))
    && way_test k (bit_xor o (turn (n / 4 ^ k))) (n % 4 ^ k) (x % 2 ^ k) (y % 2 ^ k) s

pub record Passed (k o n x y s : ℕ) : Type 0 where
  pub at : At k o n x y
  pub next : s ≡ 16 * orientation_after k o n

pub way_test-true : (k o n x y s : ℕ) → n < 4 ^ k → x < 2 ^ k → y < 2 ^ k → way_test k o n x y s ≡ true →
    Passed k o n x y s
unfolding way_test At orientation_after
way_test-true zero o n x y s hn hx hy h = record {
  at = (omega arith, omega arith, omega arith);
  next = eqb-true s (16 * o) h;
}
way_test-true (suc k) o n x y s hn hx hy h =
    let q = 2 * (x / 2 ^ k) + y / 2 ^ k in
    let u = bit_xor o (turn (n / 4 ^ k)) in
    let parts = and_parts (q == quadrant o (n / 4 ^ k)) (way_test k u (n % 4 ^ k) (x % 2 ^ k) (y % 2 ^ k) s) h in
    let below = way_test-true k u (n % 4 ^ k) (x % 2 ^ k) (y % 2 ^ k) s (mod_below n (4 ^ k) (four_pos k))
    (mod_below x (2 ^ k) (pow_pos k)) (mod_below y (2 ^ k) (pow_pos k)) parts.1 in
    record { at = (hn, hx, hy, eqb-true q (quadrant o (n / 4 ^ k)) parts.0, below.at); next = below.next }

-- an entry for `k` levels, at an orientation and an index
unfoldable pub place_test : ℕ → ℕ → ℕ → ℕ → Bool
place_test k o n e = (held e / 2 ^ k / 2 ^ k == 0) && way_test k o n (held e / 2 ^ k) (held e % 2 ^ k) (e % 256)

unfoldable pub leaf_test : ℕ → ℕ → ℕ → ℕ → Bool
leaf_test k o p e = (held e / 4 ^ k == 0) && way_test k o (held e) (p / 2 ^ k) (p % 2 ^ k) (e % 256)

below_divisor : (x d : ℕ) → 0 < d → (x / d == 0) ≡ true → x < d
below_divisor x d hd h =
    let e = div-add-mod' x d in
    let z : x / d * d ≡ 0 * d = ap (λ q. q * d) (eqb-true (x / d) 0 h) in
    let r = mod_below x d hd in
    omega arith

pub place_test-true : (k o n e : ℕ) → n < 4 ^ k → place_test k o n e ≡ true → IsPlaceEntry k o n e
unfolding place_test
place_test-true k o n e hn h =
    let x = held e / 2 ^ k in
    let y = held e % 2 ^ k in
    let parts = and_parts (x / 2 ^ k == 0) (way_test k o n x y (e % 256)) h in
    let p = way_test-true k o n x y (e % 256) hn (below_divisor x (2 ^ k) (pow_pos k) parts.0)
    (mod_below (held e) (2 ^ k) (pow_pos k)) parts.1 in
    record { place = p.at; next = p.next }

pub leaf_test-true : (k o p e : ℕ) → p / 2 ^ k < 2 ^ k → leaf_test k o p e ≡ true →
    IsLeafEntry k o (p / 2 ^ k) (p % 2 ^ k) e
unfolding leaf_test
leaf_test-true k o p e hp h =
    let parts = and_parts (held e / 4 ^ k == 0) (way_test k o (held e) (p / 2 ^ k) (p % 2 ^ k) (e % 256)) h in
    let w = way_test-true k o (held e) (p / 2 ^ k) (p % 2 ^ k) (e % 256)
    (below_divisor (held e) (4 ^ k) (four_pos k) parts.0) hp (mod_below p (2 ^ k) (pow_pos k)) parts.1 in
    record { leaf = w.at; next = w.next }

-- the four entries of each word of a list pass a test with their orientation and the word's index, counted from `i`
unfoldable pub word_passes : (ℕ → ℕ → ℕ → Bool) → ℕ → ℕ → Bool
word_passes p i w = (p 0 i w && p 1 i (w / 2 ^ 16)) && (p 2 i (w / 2 ^ 32) && p 3 i (w / 2 ^ 48))

unfoldable pub words_pass : (ℕ → ℕ → ℕ → Bool) → ℕ → List ℕ → Bool
words_pass p i [] = true
words_pass p i (w ∷ ws) = word_passes p i w && words_pass p (suc i) ws

pub entry_passes : (p : ℕ → ℕ → ℕ → Bool) (i w o : ℕ) → o < 4 → word_passes p i w ≡ true →
    p o i (w / 2 ^ (16 * o)) ≡ true
unfolding word_passes
entry_passes p i w o ho h =
    let halves = and_parts (p 0 i w && p 1 i (w / 2 ^ 16)) (p 2 i (w / 2 ^ 32) && p 3 i (w / 2 ^ 48)) h in
    let low = and_parts (p 0 i w) (p 1 i (w / 2 ^ 16)) halves.0 in
    let high = and_parts (p 2 i (w / 2 ^ 32)) (p 3 i (w / 2 ^ 48)) halves.1 in
    four_cases (λ o. p o i (w / 2 ^ (16 * o)) ≡ true)
    (subst (λ z. p 0 i z ≡ true) (sym (div-one w)) low.0) low.1 high.0 high.1 o ho

pub word_at : (p : ℕ → ℕ → ℕ → Bool) (i : ℕ) (ws : List ℕ) (k : ℕ) → words_pass p i ws ≡ true → k < length ws →
    word_passes p (i + k) (get_or ws k 0) ≡ true
unfolding words_pass
word_at p i [] k h lt = absurd (omega arith)
word_at p i (w ∷ ws) zero h lt =
    let at : i ≡ i + 0 = omega arith in
    subst (λ z. word_passes p z w ≡ true) at (and_parts (word_passes p i w) (words_pass p (suc i) ws) h).0
word_at p i (w ∷ ws) (suc k) h lt =
    let at : suc i + k ≡ i + suc k = omega arith in
    subst (λ z. word_passes p z (get_or ws k 0) ≡ true) at
    (word_at p (suc i) ws k (and_parts (word_passes p i w) (words_pass p (suc i) ws) h).1 (omega arith))

place_steps_ok : words_pass (place_test 1) 0 PLACE_STEPS ≡ true
unfolding words_pass word_passes place_test way_test turn quadrant quadrants
place_steps_ok = refl

leaf_steps_ok : words_pass (leaf_test 1) 0 LEAF_STEPS ≡ true
unfolding words_pass word_passes leaf_test way_test turn quadrant quadrants
leaf_steps_ok = refl

places_ok : words_pass (place_test 4) 0 PLACES ≡ true
unfolding words_pass word_passes place_test way_test turn quadrant quadrants
places_ok = refl

leaves_ok : words_pass (leaf_test 4) 0 LEAVES ≡ true
unfolding words_pass word_passes leaf_test way_test turn quadrant quadrants
leaves_ok = refl

passes : (p : ℕ → ℕ → ℕ → Bool) (ws : List ℕ) → words_pass p 0 ws ≡ true → (s k : ℕ) → s < 64 → s % 16 ≡ 0 →
    k < length ws → p (s / 16) k (get_or ws k 0 / 2 ^ s) ≡ true
passes p ws ok s k hs he lt =
    let es : 16 * (s / 16) ≡ s = omega arith in
    let ek : 0 + k ≡ k = omega arith in
    let there = entry_passes p (0 + k) (get_or ws k 0) (s / 16) (omega arith) (word_at p 0 ws k ok lt) in
    rw (es, ek) at there

place_is : (k : ℕ) (ws : List ℕ) → words_pass (place_test k) 0 ws ≡ true → (s n : ℕ) → s < 64 → s % 16 ≡ 0 →
    n < length ws → n < 4 ^ k → IsPlaceEntry k (s / 16) n (get_or ws n 0 / 2 ^ s)
place_is k ws ok s n hs he lt hn =
    place_test-true k (s / 16) n (get_or ws n 0 / 2 ^ s) hn (passes (place_test k) ws ok s n hs he lt)

leaf_is : (k : ℕ) (ws : List ℕ) → words_pass (leaf_test k) 0 ws ≡ true → (s p : ℕ) → s < 64 → s % 16 ≡ 0 →
    p < length ws → p / 2 ^ k < 2 ^ k → IsLeafEntry k (s / 16) (p / 2 ^ k) (p % 2 ^ k) (get_or ws p 0 / 2 ^ s)
leaf_is k ws ok s p hs he lt hp =
    leaf_test-true k (s / 16) p (get_or ws p 0 / 2 ^ s) hp (passes (leaf_test k) ws ok s p hs he lt)

pub place_step_is : (s p : ℕ) → s < 64 → s % 16 ≡ 0 → p < 4 → IsPlaceEntry 1 (s / 16) p (get_or PLACE_STEPS p 0 / 2 ^ s)
place_step_is s p hs he hp = place_is 1 PLACE_STEPS place_steps_ok s p hs he hp hp

pub quadrant_held : (s p : ℕ) → s < 64 → s % 16 ≡ 0 → p < 4 → held (get_or PLACE_STEPS p 0 / 2 ^ s) < 4
quadrant_held s p hs he hp =
    let e = get_or PLACE_STEPS p 0 / 2 ^ s in
    let h = (at_bounds 1 (s / 16) p (held e / 2) (held e % 2) (place_step_is s p hs he hp).place).first in
    omega arith

pub leaf_step_is : (s q : ℕ) → s < 64 → s % 16 ≡ 0 → q < 4 →
    IsLeafEntry 1 (s / 16) (q / 2) (q % 2) (get_or LEAF_STEPS q 0 / 2 ^ s)
leaf_step_is s q hs he hq = leaf_is 1 LEAF_STEPS leaf_steps_ok s q hs he hq (omega arith)

pub place_entry_is : (s n : ℕ) → s < 64 → s % 16 ≡ 0 → n < 256 → IsPlaceEntry 4 (s / 16) n (get_or PLACES n 0 / 2 ^ s)
place_entry_is s n hs he hn = place_is 4 PLACES places_ok s n hs he hn hn

pub leaf_entry_is : (s p : ℕ) → s < 64 → s % 16 ≡ 0 → p < 256 →
    IsLeafEntry 4 (s / 16) (p / 16) (p % 16) (get_or LEAVES p 0 / 2 ^ s)
leaf_entry_is s p hs he hp = leaf_is 4 LEAVES leaves_ok s p hs he hp (omega arith)
