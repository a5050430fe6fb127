-- The way down the curve, as the code goes it: what each step adds to the way so far.
use Rattle.std.proofs.Common.{◌≡◌, ℕ, suc, zero, ◌+◌, ◌-◌, ◌*◌, ◌/◌, ◌%◌, ◌^◌, ◌<◌, ◌≤◌, refl, sym, ◌∙◌, ap, arith}
use Rattle.std.proofs.Common.{subst, bit_xor, ⊎_elim}
use Rattle.std.proofs.Math.Nat.{div-div-eq-div-mul, div-eq_of_lt, div-one, pow-le-pow_right}
use Rattle.std.proofs.lemmas.Nat.{pow-add, div-add-mod'}
use Rattle.std.proofs.lemmas.Bool.{cases_lt}
use Rattle.s2cell.specs.Curve.{At, orientation_after, quadrant, turn}
use Rattle.s2cell.specs.Working.Entries.{IsPlaceEntry, IsLeafEntry, fours, held}
use Rattle.s2cell.proofs.Quadrants.{turn_keeps}
use Rattle.s2cell.proofs.Levels.{at_bounds, at_step, at_join, orientation_join, orientation_below}

-- the way of `k` levels to the cell of a leaf, and the orientation `t` there
pub record Way (k o n x y t : ℕ) : Type 0 where
  pub at : At k o n x y
  pub orientation : t ≡ orientation_after k o n
  pub below : t < 4

-- the way of no level
pub no_way : (o n x y : ℕ) → o < 4 → n ≡ 0 → x ≡ 0 → y ≡ 0 → Way 0 o n x y o
unfolding At orientation_after
no_way o n x y ho hn hx hy = record { at = (hn, hx, hy); orientation = refl; below = ho }

-- a way of `a` levels, and one of `b` levels below it
pub way_join : {a b o n x y t m u v r : ℕ} →
    Way a o n x y t → Way b t m u v r → Way (a + b) o (n * 4 ^ b + m) (x * 2 ^ b + u) (y * 2 ^ b + v) r
way_join {a} {b} {o} {n} {x} {y} {t} {m} {u} {v} w below =
    let hn = (at_bounds a o n x y w.at).leaf in
    let hm = (at_bounds b t m u v below.at).leaf in
    record {
      at = at_join a b o n x y m u v w.at (rw w.orientation at below.at);
      orientation = below.orientation ∙ ap (λ z. orientation_after b z m) w.orientation
          ∙ sym (orientation_join a b o n m hn hm);
      below = below.below;
    }

-- the same numbers under other names
pub way_as : {k o n x y t : ℕ} (k' n' x' y' : ℕ) →
    Way k o n x y t → k ≡ k' → n ≡ n' → x ≡ x' → y ≡ y' → Way k' o n' x' y' t
way_as {k} {o} {n} {x} {t} k' n' x' y' w ek en ex ey =
    subst (λ z. Way z o n' x' y' t) ek (subst (λ z. Way k o z x' y' t) en
    (subst (λ z. Way k o n z y' t) ex (subst (λ z. Way k o n x z t) ey w)))

-- one level
pub way_one : (o p a b t : ℕ) → o < 4 → p < 4 → a < 2 → b < 2 → 2 * a + b ≡ quadrant o p → t ≡ bit_xor o (turn p) →
    Way 1 o p a b t
unfolding At orientation_after
way_one o p a b t ho hp ha hb q et =
    let s = at_step 0 o 0 0 0 p a b hp ha hb q (refl, refl, refl) in
    let e1 : p * 4 ^ 0 + 0 ≡ p = omega arith in
    let e2 : a * 2 ^ 0 + 0 ≡ a = omega arith in
    let e3 : b * 2 ^ 0 + 0 ≡ b = omega arith in
    record {
      at = subst (λ z. At 1 o z a b) e1 (subst (λ z. At 1 o (p * 4 ^ 0 + 0) z b) e2
          (subst (λ z. At 1 o (p * 4 ^ 0 + 0) (a * 2 ^ 0 + 0) z) e3 s));
      orientation = et ∙ ap (λ z. bit_xor o (turn z)) (sym (div-one p));
      below = subst (λ z. z < 4) (sym et) (turn_keeps o p ho hp);
    }

-- `k` levels by an entry, from digits to bits
way_by_place : {k o n e : ℕ} → o < 4 → IsPlaceEntry k o n e → Way k o n (held e / 2 ^ k) (held e % 2 ^ k) (e % 256 / 16)
way_by_place {k} {o} {n} {e} ho entry =
    let h = entry.next in
    let b = orientation_below k o n ho (at_bounds k o n (held e / 2 ^ k) (held e % 2 ^ k) entry.place).leaf in
    record { at = entry.place; orientation = omega arith; below = omega arith }

-- `k` levels by an entry, from bits to digits
way_by_leaf : {k o x y e : ℕ} → o < 4 → IsLeafEntry k o x y e → Way k o (held e) x y (e % 256 / 16)
way_by_leaf {k} {o} {x} {y} {e} ho entry =
    let h = entry.next in
    let b = orientation_below k o (held e) ho (at_bounds k o (held e) x y entry.leaf).leaf in
    record { at = entry.leaf; orientation = omega arith; below = omega arith }

-- the leading bits of a coordinate, with `b` bits more
pub bits_more : (i b s : ℕ) → i / 2 ^ (s + b) * 2 ^ b + i / 2 ^ s % 2 ^ b ≡ i / 2 ^ s
bits_more i b s = rw (pow-add 2 s b, ← div-div-eq-div-mul i (2 ^ s) (2 ^ b)) (div-add-mod' (i / 2 ^ s) (2 ^ b))

-- the leading digits of a leaf, with `b` digits more
pub digits_more : (n b s : ℕ) → n / 4 ^ (s + b) * 4 ^ b + n / 4 ^ s % 4 ^ b ≡ n / 4 ^ s
digits_more n b s = rw (pow-add 4 s b, ← div-div-eq-div-mul n (4 ^ s) (4 ^ b)) (div-add-mod' (n / 4 ^ s) (4 ^ b))

-- ---- from a place to its leaf

-- the way has come `k` levels down to the leaf at i, j
abbrev pub WayToLeaf : ℕ → ℕ → ℕ → ℕ → ℕ → ℕ → Type 0
WayToLeaf k o n i j t = Way k o n (i / 2 ^ (30 - k)) (j / 2 ^ (30 - k)) t

pub to_leaf_start : (o i j : ℕ) → o < 4 → i < 2 ^ 30 → j < 2 ^ 30 → WayToLeaf 0 o 0 i j o
to_leaf_start o i j ho hi hj = no_way o 0 (i / 2 ^ 30) (j / 2 ^ 30) ho refl (div-eq_of_lt hi) (div-eq_of_lt hj)

to_leaf_more : (k : ℕ) {b : ℕ} (o n i j : ℕ) {t m : ℕ} (u : ℕ) {r : ℕ} →
    k + b ≤ 30 → WayToLeaf k o n i j t → Way b t m (i / 2 ^ (30 - (k + b)) % 2 ^ b) (j / 2 ^ (30 - (k + b)) % 2 ^ b) r →
    u ≡ n * 4 ^ b + m → WayToLeaf (k + b) o u i j r
to_leaf_more k {b} o n i j {t} {m} u {r} h w below eu =
    let s = 30 - (k + b) in
    let e : 30 - k ≡ s + b = omega arith in
    way_as (k + b) u (i / 2 ^ s) (j / 2 ^ s) (way_join w below)
    refl (sym eu) (rw e (bits_more i b s)) (rw e (bits_more j b s))

-- the way to the leaf, with the orientation as a shift
pub record DownToLeaf (k o n i j s : ℕ) : Type 0 where
  pub way : WayToLeaf k o n i j (s / 16)
  pub shift : s < 64
  pub whole : s % 16 ≡ 0

pub to_leaf_begin : (o i j s : ℕ) → o < 4 → i < 2 ^ 30 → j < 2 ^ 30 → s ≡ 16 * o → DownToLeaf 0 o 0 i j s
to_leaf_begin o i j s ho hi hj es =
    let e : o ≡ s / 16 = omega arith in
    record {
      way = subst (λ t. WayToLeaf 0 o 0 i j t) e (to_leaf_start o i j ho hi hj);
      shift = omega arith;
      whole = omega arith;
    }

-- `b` levels more by an entry
to_leaf_by : {k b o n i j s x y e : ℕ} (u z : ℕ) →
    k + b ≤ 30 → DownToLeaf k o n i j s → x ≡ i / 2 ^ (30 - (k + b)) % 2 ^ b → y ≡ j / 2 ^ (30 - (k + b)) % 2 ^ b →
    IsLeafEntry b (s / 16) x y e → u ≡ n * 4 ^ b + held e → z ≡ e % 256 → DownToLeaf (k + b) o u i j z
to_leaf_by {k} {b} {o} {n} {i} {j} {s} {x} {y} {e} u z h w ex ey entry eu ez =
    let below = way_by_leaf w.way.below entry in
    let r = below.below in
    let g = entry.next in
    record {
      way = rw ez (to_leaf_more k o n i j u h w.way (rw (← ex, ← ey) below) eu);
      shift = omega arith;
      whole = omega arith;
    }

-- one level more, by the bits of its quadrant
pub to_leaf_one : {k o n i j s : ℕ} (q : ℕ) {e : ℕ} (u z : ℕ) →
    k < 2 → DownToLeaf k o n i j s → q ≡ 2 * (i / 2 ^ (29 - k) % 2) + j / 2 ^ (29 - k) % 2 →
    IsLeafEntry 1 (s / 16) (q / 2) (q % 2) e → u ≡ 4 * n + held e → z ≡ e % 256 → DownToLeaf (k + 1) o u i j z
to_leaf_one {k} {o} {n} {i} {j} {s} q {e} u z hk w eq entry eu ez =
    let level : 30 - (k + 1) ≡ 29 - k = omega arith in
    to_leaf_by u z (omega arith) w (rw level (omega arith)) (rw level (omega arith)) entry (omega arith) ez

-- eight bits of two numbers whose fours are side by side
record Pair (p u v : ℕ) : Type 0 where
  pub first : p / 16 ≡ u
  pub second : p % 16 ≡ v

pair_at : (c x y p : ℕ) → c < 4 → p ≡ (16 * fours x + fours y) / 2 ^ (24 - 8 * c) % 256 →
    Pair p (x / 2 ^ (24 - 8 * c) % 16) (y / 2 ^ (24 - 8 * c) % 16)
unfolding fours
pair_at zero x y p h e = record { first = omega arith; second = omega arith }
pair_at (suc zero) x y p h e = record { first = omega arith; second = omega arith }
pair_at (suc (suc zero)) x y p h e = record { first = omega arith; second = omega arith }
pair_at (suc (suc (suc zero))) x y p h e = record { first = omega arith; second = omega arith }
pair_at (suc (suc (suc (suc c)))) x y p h e = absurd (omega arith)

-- four bits, counted without the lowest four
above_four : (x s : ℕ) → x / 16 / 2 ^ s ≡ x / 2 ^ (s + 4)
above_four x s = div-div-eq-div-mul x 16 (2 ^ s) ∙ ap (λ z. x / z) (let e = pow-add 2 s 4 in omega arith)

-- four bits of each coordinate, from the one number or the other
pair_for : (b i j odd even q : ℕ) → b < 7 → odd ≡ 16 * fours (i / 16) + fours (j / 16) → even ≡ 16 * fours i + fours j
    → (b % 2 ≡ 0 → q ≡ even / 2 ^ (24 - 4 * b) % 256) → (b % 2 ≡ 1 → q ≡ odd / 2 ^ (20 - 4 * b) % 256)
    → Pair q (i / 2 ^ (24 - 4 * b) % 16) (j / 2 ^ (24 - 4 * b) % 16)
pair_for b i j odd even q hb eo ee at_even at_odd =
    ⊎_elim
    (λ lower.
    let c : 24 - 8 * (b / 2) ≡ 24 - 4 * b = omega arith in
    let e : q ≡ even / 2 ^ (24 - 4 * b) % 256 = at_even (omega arith) in
    rw c at (pair_at (b / 2) i j q (omega arith) (rw (← c, ee) at e)))
    (λ upper.
    let c : 24 - 8 * ((b + 1) / 2) ≡ 20 - 4 * b = omega arith in
    let e : q ≡ odd / 2 ^ (20 - 4 * b) % 256 = at_odd (omega arith) in
    let more : 20 - 4 * b + 4 ≡ 24 - 4 * b = omega arith in
    let p = pair_at ((b + 1) / 2) (i / 16) (j / 16) q (omega arith) (rw (← c, eo) at e) in
    rw (c, above_four i (20 - 4 * b), above_four j (20 - 4 * b), more) at p)
    (cases_lt (b % 2) 1)

-- four levels more by an entry
pub to_leaf_four : (b : ℕ) {o n i j s : ℕ} (odd even q : ℕ) {e : ℕ} (u z : ℕ) → b < 7 →
    DownToLeaf (4 * b + 2) o n i j s → odd ≡ 16 * fours (i / 16) + fours (j / 16) → even ≡ 16 * fours i + fours j →
    (b % 2 ≡ 0 → q ≡ even / 2 ^ (24 - 4 * b) % 256) → (b % 2 ≡ 1 → q ≡ odd / 2 ^ (20 - 4 * b) % 256) → IsLeafEntry
    4 (s / 16) (q / 16) (q % 16) e → u ≡ 256 * n + held e → z ≡ e % 256 → DownToLeaf (4 * (b + 1) + 2) o u i j z
to_leaf_four b {o} {n} {i} {j} {s} odd even q {e} u z hb w eo ee at_even at_odd entry eu ez =
    let p = pair_for b i j odd even q hb eo ee at_even at_odd in
    let low : 30 - (4 * b + 2 + 4) ≡ 24 - 4 * b = omega arith in
    let more : 4 * b + 2 + 4 ≡ 4 * (b + 1) + 2 = omega arith in
    subst (λ k. DownToLeaf k o u i j z)
    more (to_leaf_by u z (omega arith) w (rw low p.first) (rw low p.second) entry (omega arith) ez)

-- the leaf's number stays small
pub to_leaf_small : (k a o n i j t : ℕ) → k ≤ a → WayToLeaf k o n i j t → n < 4 ^ a
to_leaf_small k a o n i j t h w =
    let l = (at_bounds k o n (i / 2 ^ (30 - k)) (j / 2 ^ (30 - k)) w.at).leaf in
    let e : 4 ^ k ≤ 4 ^ a = pow-le-pow_right {n = 4} (omega arith) h in
    omega arith

pub to_leaf_end : (k o n i j t : ℕ) → k ≡ 30 → WayToLeaf k o n i j t → At 30 o n i j
to_leaf_end k o n i j t e w = rw (div-one i, div-one j) at
    (let v : WayToLeaf 30 o n i j t = subst (λ z. WayToLeaf z o n i j t) e w in v.at)

-- ---- from a leaf to its place

-- the way has come `k` levels down to the place of the leaf n
abbrev pub WayToPlace : ℕ → ℕ → ℕ → ℕ → ℕ → ℕ → Type 0
WayToPlace k o n x y t = Way k o (n / 4 ^ (30 - k)) x y t

pub to_place_start : (o n : ℕ) → o < 4 → n < 4 ^ 30 → WayToPlace 0 o n 0 0 o
to_place_start o n ho hn = no_way o (n / 4 ^ 30) 0 0 ho (div-eq_of_lt hn) refl refl

to_place_more : (k : ℕ) {b : ℕ} (o n x y : ℕ) {t u v r : ℕ} (x' y' : ℕ) → k + b ≤ 30 → WayToPlace k o n x y t → Way b
    t (n / 4 ^ (30 - (k + b)) % 4 ^ b) u v r → x' ≡ x * 2 ^ b + u → y' ≡ y * 2 ^ b + v → WayToPlace (k + b) o n x' y' r
to_place_more k {b} o n x y {t} {u} {v} {r} x' y' h w below ex ey =
    let s = 30 - (k + b) in
    let e : 30 - k ≡ s + b = omega arith in
    way_as (k + b) (n / 4 ^ s) x' y' (way_join w below) refl (rw e (digits_more n b s)) (sym ex) (sym ey)

-- the coordinates stay small
pub to_place_small : (k a o n x y t : ℕ) → k ≤ a → WayToPlace k o n x y t → (x < 2 ^ a) × (y < 2 ^ a)
to_place_small k a o n x y t h w =
    let l = at_bounds k o (n / 4 ^ (30 - k)) x y w.at in
    let e : 2 ^ k ≤ 2 ^ a = pow-le-pow_right {n = 2} (omega arith) h in
    let c = l.first in
    let d = l.second in
    (omega arith, omega arith)

pub to_place_end : (k o n x y t : ℕ) → k ≡ 30 → WayToPlace k o n x y t → At 30 o n x y
to_place_end k o n x y t e w = rw (div-one n) at
    (let v : WayToPlace 30 o n x y t = subst (λ z. WayToPlace z o n x y t) e w in v.at)

-- the way to the place, with the orientation as a shift
pub record DownToPlace (k o n x y s : ℕ) : Type 0 where
  pub way : WayToPlace k o n x y (s / 16)
  pub shift : s < 64
  pub whole : s % 16 ≡ 0

pub to_place_begin : (o n s : ℕ) → o < 4 → n < 4 ^ 30 → s ≡ 16 * o → DownToPlace 0 o n 0 0 s
to_place_begin o n s ho hn es =
    let e : o ≡ s / 16 = omega arith in
    record {
      way = subst (λ t. WayToPlace 0 o n 0 0 t) e (to_place_start o n ho hn);
      shift = omega arith;
      whole = omega arith;
    }

-- the coordinates after the single levels
pub to_place_levels : {k o n x y s : ℕ} → k ≤ 2 → DownToPlace k o n x y s → (x < 4) × (y < 4)
to_place_levels {k} {o} {n} {x} {y} {s} h w = to_place_small k 2 o n x y (s / 16) h w.way

-- `b` levels more by an entry
to_place_by : {k b o n x y s p e : ℕ} (u v z : ℕ) →
    k + b ≤ 30 → DownToPlace k o n x y s → p ≡ n / 4 ^ (30 - (k + b)) % 4 ^ b → IsPlaceEntry b (s / 16) p e →
    u ≡ x * 2 ^ b + held e / 2 ^ b → v ≡ y * 2 ^ b + held e % 2 ^ b → z ≡ e % 256 → DownToPlace (k + b) o n u v z
to_place_by {k} {b} {o} {n} {x} {y} {s} {p} {e} u v z h w ep entry eu ev ez =
    let below = way_by_place w.way.below entry in
    let r = below.below in
    let g = entry.next in
    record {
      way = rw ez (to_place_more k o n x y u v h w.way (rw ep at below) eu ev);
      shift = omega arith;
      whole = omega arith;
    }

-- one level more
pub to_place_one : {k o n x y s p e : ℕ} (u v z : ℕ) →
    k < 2 → DownToPlace k o n x y s → p ≡ n / 4 ^ (29 - k) % 4 → IsPlaceEntry 1 (s / 16) p e →
    u ≡ 2 * x + held e / 2 → v ≡ 2 * y + held e % 2 → z ≡ e % 256 → DownToPlace (k + 1) o n u v z
to_place_one {k} {o} {n} {x} {y} {s} {p} {e} u v z hk w ep entry eu ev ez =
    let level : 30 - (k + 1) ≡ 29 - k = omega arith in
    to_place_by u v z (omega arith) w (rw level ep) entry (omega arith) (omega arith) ez

-- ---- the place in two numbers

pub fours_small : (x : ℕ) → fours x ≤ 252645135
unfolding fours
fours_small x = omega arith

-- eight bits more
fours_more : (x r : ℕ) → x < 2 ^ 24 → r < 256 → fours (256 * x + r) ≡ 256 * fours x + r % 16
unfolding fours
fours_more x r hx hr = omega arith

fours_above : (x r : ℕ) → x < 2 ^ 24 → r < 256 → fours ((256 * x + r) / 16) ≡ 256 * fours (x / 16) + r / 16
unfolding fours
fours_above x r hx hr = omega arith

-- a coordinate, from every second four of its bits and the fours between them
unfoldable pub between : ℕ → ℕ → ℕ
between before last = 16 * fours before + fours last

-- the way to the place after two levels and `b` times four
pub record DownInTwo (b o n before last s : ℕ) : Type 0 where
  pub down : DownToPlace (4 * b + 2) o n (between (before / 16) (last / 16)) (between before last) s
  pub before_below : before < 256 ^ ((b + 1) / 2)
  pub last_below : last < 256 ^ (b / 2 + 1)

pub to_place_two : {o n x y s : ℕ} (last : ℕ) → DownToPlace 2 o n x y s → last ≡ 16 * x + y → DownInTwo 0 o n 0 last s
unfolding between fours
to_place_two {o} {n} {x} {y} {s} last w e =
    let small = to_place_levels (omega arith) w in
    let hx = small.0 in
    let hy = small.1 in
    let ex : x ≡ between 0 (last / 16) = omega arith in
    let ey : y ≡ between 0 last = omega arith in
    record {
      down = subst (λ a. DownToPlace 2 o n a (between 0 last) s) ex (subst (λ b. DownToPlace 2 o n x b s) ey w);
      before_below = omega arith;
      last_below = omega arith;
    }

-- the older number has room for eight bits more
pub room : (b x : ℕ) → b < 7 → x < 256 ^ ((b + 1) / 2) → x < 2 ^ 24
room b x hb hx =
    let most : (b + 1) / 2 ≤ 3 = omega arith in
    let e : 256 ^ ((b + 1) / 2) ≤ 256 ^ 3 = pow-le-pow_right {n = 256} (omega arith) most in
    omega arith

-- four levels more by an entry
pub to_place_four : {b o n before last s p e : ℕ} (u z : ℕ) →
    b < 7 → DownInTwo b o n before last s → p ≡ n / 4 ^ (24 - 4 * b) % 256 →
    IsPlaceEntry 4 (s / 16) p e → u ≡ 256 * before + held e → z ≡ e % 256 → DownInTwo (b + 1) o n last u z
unfolding between
to_place_four {b} {o} {n} {before} {last} {s} {p} {e} u z hb w ep entry eu ez =
    let low : 30 - (4 * b + 2 + 4) ≡ 24 - 4 * b = omega arith in
    let levels : 4 * b + 2 + 4 ≡ 4 * (b + 1) + 2 = omega arith in
    let hr = room b before hb w.before_below in
    let hh : held e < 256 = omega arith in
    let above = rw (← eu) at (fours_above before (held e) hr hh) in
    let more = rw (← eu) at (fours_more before (held e) hr hh) in
    let ex : between (last / 16) (u / 16) ≡ between (before / 16) (last / 16) * 16 + held e / 16 = omega arith in
    let ey : between last u ≡ between before last * 16 + held e % 16 = omega arith in
    let half : (b + 1 + 1) / 2 ≡ b / 2 + 1 = omega arith in
    let size = pow-add 256 ((b + 1) / 2) 1 in
    let hb' = w.before_below in
    record {
      down = subst (λ k. DownToPlace k o n (between (last / 16) (u / 16)) (between last u) z) levels (to_place_by
          (between (last / 16) (u / 16)) (between last u) z (omega arith) w.down (rw low ep) entry ex ey ez);
      before_below = rw half w.last_below;
      last_below = omega arith;
    }
