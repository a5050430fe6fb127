-- Successive leaves of a face share a side.
use Rattle.std.proofs.Common.{◌≡◌, ℕ, suc, zero, ◌+◌, ◌-◌, ◌*◌, ◌/◌, ◌%◌, ◌^◌, ◌<◌, refl, sym}
use Rattle.std.proofs.Common.{◌∙◌, ap, arith, bit_xor, ◌⊎◌, inl, inr, ⊎_elim}
use Rattle.std.proofs.Math.Nat.{pow-suc, div-eq_of_lt, mod-eq_of_lt}
use Rattle.std.proofs.lemmas.Nat.{pow_pos, div-mul-add, mod-mul-add, mod_below, div-add-mod'}
use Rattle.std.proofs.lemmas.Bool.{cases_lt}
use Rattle.s2cell.specs.Curve.{AreNeighbours, At, quadrant, quadrants, turn}
use Rattle.s2cell.proofs.CellLemmas.{four_pos}
use Rattle.s2cell.proofs.Quadrants.{four_cases, quadrant_below, turn_keeps}
use Rattle.s2cell.proofs.Levels.{digit_below}
use Rattle.s2cell.proofs.Places.{half_below, same_parts, same_halves}

-- the corner of a quadrant's half and the far corner within it
pub corner_sum : (c h x q r : ℕ) → c < 2 → 0 < h → q * h + r ≡ x → q ≡ c → r ≡ c * (h - 1) → x ≡ c * (h * 2 - 1)
corner_sum zero h x q r hc hp e f g = sym e ∙ ap (λ z. z * h + r) f ∙ omega arith
corner_sum (suc zero) h x q r hc hp e f g = sym e ∙ ap (λ z. z * h + r) f ∙ omega arith
corner_sum (suc (suc c)) h x q r hc hp e f g = absurd (omega arith)

first_turn : (o : ℕ) → o < 4 → bit_xor o (turn 0) / 2 ≡ o / 2
unfolding turn
first_turn = four_cases (λ o. bit_xor o (turn 0) / 2 ≡ o / 2) refl refl refl refl

first_quadrant : (o : ℕ) → o < 4 → quadrant o 0 ≡ 2 * (o / 2) + o / 2
unfolding quadrant quadrants
first_quadrant = four_cases (λ o. quadrant o 0 ≡ 2 * (o / 2) + o / 2) refl refl refl refl

last_turn : (o : ℕ) → o < 4 → quadrant (bit_xor o (turn 3)) 3 ≡ quadrant o 3
unfolding turn quadrant quadrants
last_turn = four_cases (λ o. quadrant (bit_xor o (turn 3)) 3 ≡ quadrant o 3) refl refl refl refl

-- both coordinates of a place in the corner c, d
pub record Corner (k c d x y : ℕ) : Type 0 where
  pub in_first : x ≡ c * (2 ^ k - 1)
  pub in_second : y ≡ d * (2 ^ k - 1)

-- where the curve enters
pub first_corner : (k o x y : ℕ) → o < 4 → At k o 0 x y → Corner k (o / 2) (o / 2) x y
unfolding At
first_corner zero o x y ho (a, b, c) = record { in_first = omega arith; in_second = omega arith }
first_corner (suc k) o x y ho (a, b, c, d, e) =
    let z1 : 0 / 4 ^ k ≡ 0 = div-eq_of_lt (four_pos k) in
    let z2 : 0 % 4 ^ k ≡ 0 = mod-eq_of_lt (four_pos k) in
    let q = d ∙ ap (quadrant o) z1 ∙ first_quadrant o ho in
    let halves = same_halves (x / 2 ^ k) (y / 2 ^ k) (o / 2) (o / 2) (half_below k y c) (omega arith) q in
    let way = rw (z1, z2) at e in
    let deep = first_corner k (bit_xor o (turn 0)) (x % 2 ^ k) (y % 2 ^ k) (turn_keeps o 0 ho (omega arith)) way in
    let t = first_turn o ho in
    let hp = pow_pos k in
    let e2 = pow-suc 2 k in
    record {
      in_first = rw e2 (corner_sum (o / 2) (2 ^ k) x (x / 2 ^ k) (x % 2 ^ k) (omega arith) hp
          (div-add-mod' x (2 ^ k)) halves.0 (rw t at deep.in_first));
      in_second = rw e2 (corner_sum (o / 2) (2 ^ k) y (y / 2 ^ k) (y % 2 ^ k) (omega arith) hp
          (div-add-mod' y (2 ^ k)) halves.1 (rw t at deep.in_second));
    }

-- where it leaves
pub last_corner : (k o n x y : ℕ) → o < 4 → n + 1 ≡ 4 ^ k → At k o n x y →
    Corner k (quadrant o 3 / 2) (quadrant o 3 % 2) x y
unfolding At
last_corner zero o n x y ho hn (a, b, c) = record { in_first = omega arith; in_second = omega arith }
last_corner (suc k) o n x y ho hn (a, b, c, d, e) =
    let ek = pow-suc 4 k in
    let hk = four_pos k in
    let m = 4 ^ k - 1 in
    let lm : m < 4 ^ k = omega arith in
    let en : n ≡ 3 * 4 ^ k + m = omega arith in
    let z1 : n / 4 ^ k ≡ 3 = ap (λ z. z / 4 ^ k) en ∙ div-mul-add 3 (4 ^ k) m lm in
    let z2 : n % 4 ^ k ≡ m = ap (λ z. z % 4 ^ k) en ∙ mod-mul-add 3 (4 ^ k) m lm in
    let hq = quadrant_below o 3 ho (omega arith) in
    let Q = quadrant o 3 in
    let two : Q ≡ 2 * (Q / 2) + Q % 2 = omega arith in
    let halves = same_halves (x / 2 ^ k) (y / 2 ^ k) (Q / 2) (Q % 2) (half_below k y c) (omega arith)
    (d ∙ ap (quadrant o) z1 ∙ two) in
    let way = rw (z1, z2) at e in
    let deep = last_corner k (bit_xor o (turn 3)) m (x % 2 ^ k) (y % 2 ^ k) (turn_keeps o 3 ho (omega arith))
    (omega arith) way in
    let t = last_turn o ho in
    let hp = pow_pos k in
    let e2 = pow-suc 2 k in
    record {
      in_first = rw e2 (corner_sum (Q / 2) (2 ^ k) x (x / 2 ^ k) (x % 2 ^ k) (omega arith) hp
          (div-add-mod' x (2 ^ k)) halves.0 (rw t at deep.in_first));
      in_second = rw e2 (corner_sum (Q % 2) (2 ^ k) y (y / 2 ^ k) (y % 2 ^ k) (omega arith) hp
          (div-add-mod' y (2 ^ k)) halves.1 (rw t at deep.in_second));
    }

-- from the half a to the half b, out of the corner c and into the corner e
abbrev pub Across : ℕ → ℕ → ℕ → ℕ → Type 0
Across a c b e = ((a ≡ 0) × (c ≡ 1) × (b ≡ 1) × (e ≡ 0)) ⊎ ((a ≡ 1) × (c ≡ 0) × (b ≡ 0) × (e ≡ 1))

-- the quadrants q and r are neighbours, the curve leaves q at the corner s, as 2 * c + d, and enters r at e, e
abbrev pub Crosses : ℕ → ℕ → ℕ → ℕ → Type 0
Crosses q r s e = ((q / 2 ≡ r / 2) × (s / 2 ≡ e) × Across (q % 2) (s % 2) (r % 2) e)
    ⊎ ((q % 2 ≡ r % 2) × (s % 2 ≡ e) × Across (q / 2) (s / 2) (r / 2) e)

abbrev pub CrossesAt : ℕ → ℕ → Type 0
CrossesAt o p = Crosses (quadrant o p) (quadrant o (suc p)) (quadrant (bit_xor o (turn p)) 3)
    (bit_xor o (turn (suc p)) / 2)

three_cases : (P : ℕ → Type 0) → P 0 → P 1 → P 2 → (n : ℕ) → n < 3 → P n
three_cases P a b c zero h = a
three_cases P a b c (suc zero) h = b
three_cases P a b c (suc (suc zero)) h = c
three_cases P a b c (suc (suc (suc n))) h = absurd (omega arith)

pub crosses : (p : ℕ) → p < 3 → (o : ℕ) → o < 4 → CrossesAt o p
unfolding turn quadrant quadrants
crosses p hp = four_cases (λ o. CrossesAt o p)
    (three_cases (λ p. CrossesAt 0 p) (inl (refl, refl, inl (refl, refl, refl, refl)))
    (inr (refl, refl, inl (refl, refl, refl, refl))) (inl (refl, refl, inr (refl, refl, refl, refl))) p hp)
    (three_cases (λ p. CrossesAt 1 p) (inr (refl, refl, inl (refl, refl, refl, refl)))
    (inl (refl, refl, inl (refl, refl, refl, refl))) (inr (refl, refl, inr (refl, refl, refl, refl))) p hp)
    (three_cases (λ p. CrossesAt 2 p) (inl (refl, refl, inr (refl, refl, refl, refl)))
    (inr (refl, refl, inr (refl, refl, refl, refl))) (inl (refl, refl, inl (refl, refl, refl, refl))) p hp)
    (three_cases (λ p. CrossesAt 3 p) (inr (refl, refl, inr (refl, refl, refl, refl)))
    (inl (refl, refl, inr (refl, refl, refl, refl))) (inr (refl, refl, inl (refl, refl, refl, refl))) p hp)

step_parts : (x u d : ℕ) → x / d ≡ u / d → x % d + 1 ≡ u % d → x + 1 ≡ u
step_parts x u d e f =
    let a = div-add-mod' x d in
    let b = div-add-mod' u d in
    let c : x / d * d ≡ u / d * d = ap (λ z. z * d) e in
    omega arith

either_step : (x u d : ℕ) → x / d ≡ u / d → (x % d + 1 ≡ u % d) ⊎ (u % d + 1 ≡ x % d) → (x + 1 ≡ u) ⊎ (u + 1 ≡ x)
either_step x u d e (inl f) = inl (step_parts x u d e f)
either_step x u d e (inr f) = inr (step_parts u x d (sym e) f)

lifted : (x y u v d : ℕ) → x / d ≡ u / d → y / d ≡ v / d → AreNeighbours (x % d) (y % d) (u % d) (v % d) →
    AreNeighbours x y u v
lifted x y u v d e f (inl s) = inl (same_parts x u d e s.0, either_step y v d f s.1)
lifted x y u v d e f (inr s) = inr (same_parts y v d f s.0, either_step x u d e s.1)

across_step : (a c b e h y v : ℕ) → Across a c b e → 0 < h → y / h ≡ a → y % h ≡ c * (h - 1) → v / h ≡ b →
    v % h ≡ e * (h - 1) → (y + 1 ≡ v) ⊎ (v + 1 ≡ y)
across_step a c b e h y v (inl w) hp ya yr vb vr =
    let r1 : y % h ≡ 1 * (h - 1) = yr ∙ ap (λ z. z * (h - 1)) w.1 in
    let r2 : v % h ≡ 0 * (h - 1) = vr ∙ ap (λ z. z * (h - 1)) w.3 in
    let p1 : y / h * h ≡ 0 * h = ap (λ z. z * h) (ya ∙ w.0) in
    let p2 : v / h * h ≡ 1 * h = ap (λ z. z * h) (vb ∙ w.2) in
    let a1 = div-add-mod' y h in
    let a2 = div-add-mod' v h in
    inl (omega arith)
across_step a c b e h y v (inr w) hp ya yr vb vr =
    let r1 : y % h ≡ 0 * (h - 1) = yr ∙ ap (λ z. z * (h - 1)) w.1 in
    let r2 : v % h ≡ 1 * (h - 1) = vr ∙ ap (λ z. z * (h - 1)) w.3 in
    let p1 : y / h * h ≡ 1 * h = ap (λ z. z * h) (ya ∙ w.0) in
    let p2 : v / h * h ≡ 0 * h = ap (λ z. z * h) (vb ∙ w.2) in
    let a1 = div-add-mod' y h in
    let a2 = div-add-mod' v h in
    inr (omega arith)

-- from one quadrant to the next
crossing : (q r s e h x y u v : ℕ) →
    Crosses q r s e → 0 < h → x / h ≡ q / 2 → y / h ≡ q % 2 → u / h ≡ r / 2 → v / h ≡ r % 2 → x % h ≡ s / 2 * (h - 1) →
    y % h ≡ s % 2 * (h - 1) → u % h ≡ e * (h - 1) → v % h ≡ e * (h - 1) → AreNeighbours x y u v
crossing q r s e h x y u v (inl w) hp x1 y1 u1 v1 x2 y2 u2 v2 =
    inl (
      same_parts x u h (x1 ∙ w.0 ∙ sym u1) (x2 ∙ ap (λ z. z * (h - 1)) w.1 ∙ sym u2),
      across_step (q % 2) (s % 2) (r % 2) e h y v w.2 hp y1 y2 v1 v2,
    )
crossing q r s e h x y u v (inr w) hp x1 y1 u1 v1 x2 y2 u2 v2 =
    inr (
      same_parts y v h (y1 ∙ w.0 ∙ sym v1) (y2 ∙ ap (λ z. z * (h - 1)) w.1 ∙ sym v2),
      across_step (q / 2) (s / 2) (r / 2) e h x u w.2 hp x1 x2 u1 u2,
    )

-- the halves of a place, from its quadrant
pub halves_of : (k q x y : ℕ) → y < 2 ^ suc k → 2 * (x / 2 ^ k) + y / 2 ^ k ≡ q → (x / 2 ^ k ≡ q / 2)
    × (y / 2 ^ k ≡ q % 2)
halves_of k q x y hy e = let h = half_below k y hy in (omega arith, omega arith)

pub record Successor (n d : ℕ) : Type 0 where
  pub quotient : (n + 1) / d ≡ n / d
  pub rest : (n + 1) % d ≡ n % d + 1

successor_within : (n d : ℕ) → n % d + 1 < d → Successor n d
successor_within n d h =
    let e = div-add-mod' n d in
    let f : n + 1 ≡ n / d * d + (n % d + 1) = omega arith in
    record {
      quotient = ap (λ z. z / d) f ∙ div-mul-add (n / d) d (n % d + 1) h;
      rest = ap (λ z. z % d) f ∙ mod-mul-add (n / d) d (n % d + 1) h;
    }

pub record NewBlock (n d : ℕ) : Type 0 where
  pub quotient : (n + 1) / d ≡ suc (n / d)
  pub rest : (n + 1) % d ≡ 0

successor_beyond : (n d : ℕ) → 0 < d → n % d + 1 ≡ d → NewBlock n d
successor_beyond n d hd h =
    let e = div-add-mod' n d in
    let f : n + 1 ≡ suc (n / d) * d + 0 = omega arith in
    record {
      quotient = ap (λ z. z / d) f ∙ div-mul-add (suc (n / d)) d 0 hd;
      rest = ap (λ z. z % d) f ∙ mod-mul-add (suc (n / d)) d 0 hd;
    }

-- successive leaves share a side
pub next_to : (k o n x y u v : ℕ) → o < 4 → At k o n x y → At k o (n + 1) u v → AreNeighbours x y u v
unfolding At
next_to zero o n x y u v ho (a, b, c) (d, e, f) = absurd (omega arith)
next_to (suc k) o n x y u v ho (a, b, c, d, e) (a', b', c', d', e') =
    let hk = four_pos k in
    let hp = pow_pos k in
    let p = n / 4 ^ k in
    let below = mod_below n (4 ^ k) hk in
    ⊎_elim
    (λ within.
    let w = successor_within n (4 ^ k) within in
    let one = halves_of k (quadrant o p) x y c d in
    let two = halves_of k (quadrant o p) u v c' (d' ∙ ap (quadrant o) w.quotient) in
    let deep = next_to k (bit_xor o (turn p)) (n % 4 ^ k) (x % 2 ^ k) (y % 2 ^ k) (u % 2 ^ k) (v % 2 ^ k)
    (turn_keeps o p ho (digit_below k n a)) e (rw (w.quotient, w.rest) at e') in
    lifted x y u v (2 ^ k) (one.0 ∙ sym two.0) (one.1 ∙ sym two.1) deep)
    (λ beyond.
    let full : n % 4 ^ k + 1 ≡ 4 ^ k = omega arith in
    let w = successor_beyond n (4 ^ k) hk full in
    let hq : (n + 1) / 4 ^ k < 4 = digit_below k (n + 1) a' in
    let q = w.quotient in
    let hp3 : p < 3 = omega arith in
    let one = halves_of k (quadrant o p) x y c d in
    let two = halves_of k (quadrant o (suc p)) u v c' (d' ∙ ap (quadrant o) w.quotient) in
    let from = last_corner k (bit_xor o (turn p)) (n % 4 ^ k) (x % 2 ^ k) (y % 2 ^ k)
    (turn_keeps o p ho (digit_below k n a)) full e in
    let into = first_corner k (bit_xor o (turn (suc p))) (u % 2 ^ k) (v % 2 ^ k)
    (turn_keeps o (suc p) ho (omega arith)) (rw (w.quotient, w.rest) at e') in
    crossing (quadrant o p) (quadrant o (suc p)) (quadrant (bit_xor o (turn p)) 3) (bit_xor o (turn (suc p)) / 2)
    (2 ^ k) x y u v (crosses p hp3 o ho) hp one.0 one.1 two.0 two.1 from.in_first from.in_second into.in_first
    into.in_second)
    (cases_lt (n % 4 ^ k + 1) (4 ^ k))
