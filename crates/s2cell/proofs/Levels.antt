-- The curve over several levels: a way of some levels and a way below it, joined and taken apart.
use Rattle.std.proofs.Common.{◌≡◌, ℕ, suc, zero, ◌+◌, ◌*◌, ◌/◌, ◌%◌, ◌^◌, ◌<◌, refl, sym, ◌∙◌, ap, arith, bit_xor}
use Rattle.std.proofs.Math.Nat.{pow-suc, suc-add, zero-add, div-div-eq-div-mul, div-eq_of_lt}
use Rattle.std.proofs.Math.Arith.{mod-mul}
use Rattle.std.proofs.lemmas.Nat.{pow_pos, pow-add, div-mul-add, mod-mul-add, mul-add-lt, div_below, mod_below}
use Rattle.std.proofs.lemmas.Nat.{div-add-mod'}
use Rattle.s2cell.specs.Curve.{At, orientation_after, quadrant, turn}
use Rattle.s2cell.proofs.CellLemmas.{four_pos}
use Rattle.s2cell.proofs.Quadrants.{turn_keeps}

-- the bounds of what stands at a place
pub record Bounds (k n x y : ℕ) : Type 0 where
  pub leaf : n < 4 ^ k
  pub first : x < 2 ^ k
  pub second : y < 2 ^ k

pub at_bounds : (k o n x y : ℕ) → At k o n x y → Bounds k n x y
unfolding At
at_bounds zero o n x y (a, b, c) = record { leaf = omega arith; first = omega arith; second = omega arith }
at_bounds (suc k) o n x y (a, b, c, d, e) = record { leaf = a; first = b; second = c }

-- one quadrant, and the rest of the way in it
pub at_step : (k o n x y p a b : ℕ) → p < 4 → a < 2 → b < 2 → 2 * a + b ≡ quadrant o p →
    At k (bit_xor o (turn p)) n x y → At (suc k) o (p * 4 ^ k + n) (a * 2 ^ k + x) (b * 2 ^ k + y)
unfolding At
at_step k o n x y p a b hp ha hb q rest =
    let w = at_bounds k (bit_xor o (turn p)) n x y rest in
    let n1 = div-mul-add p (4 ^ k) n w.leaf in
    let n2 = mod-mul-add p (4 ^ k) n w.leaf in
    let x1 = div-mul-add a (2 ^ k) x w.first in
    let x2 = mod-mul-add a (2 ^ k) x w.first in
    let y1 = div-mul-add b (2 ^ k) y w.second in
    let y2 = mod-mul-add b (2 ^ k) y w.second in
    let ln = mul-add-lt p (4 ^ k) n 4 hp w.leaf in
    let lx = mul-add-lt a (2 ^ k) x 2 ha w.first in
    let ly = mul-add-lt b (2 ^ k) y 2 hb w.second in
    let en = pow-suc 4 k in
    let e2 = pow-suc 2 k in
    (omega arith, omega arith, omega arith, rw (n1, x1, y1) q, rw (n1, n2, x2, y2) rest)

-- a number of a leading part and a rest below B, against A blocks of B
pub record Blocks (n r A B : ℕ) : Type 0 where
  pub whole : (n * B + r) / (A * B) ≡ n / A
  pub rest : (n * B + r) % (A * B) ≡ (n % A) * B + r

pub blocks : (n r A B : ℕ) → 0 < A → r < B → Blocks n r A B
blocks n r A B ha hr =
    let hb : 0 < B = omega arith in
    let d1 : (n * B + r) / B ≡ n = div-mul-add n B r hr in
    let d2 : (n * B + r) % B ≡ r = mod-mul-add n B r hr in
    let e : (n * B + r) / (B * A) ≡ n / A = sym (div-div-eq-div-mul (n * B + r) B A) ∙ ap (λ z. z / A) d1 in
    let c : B * A ≡ A * B = omega arith in
    let m = mod-mul (n * B + r) {m = A} {c = B} ha hb in
    record { whole = rw c at e; rest = rw (d1, d2) at m }

pub digit_below : (k n : ℕ) → n < 4 ^ suc k → n / 4 ^ k < 4
digit_below k n h = let e = pow-suc 4 k in let p = four_pos k in div_below n (4 ^ k) 4 p (omega arith)

-- the orientation after a first part and a second part of the digits
pub orientation_join : (a b o n r : ℕ) → n < 4 ^ a → r < 4 ^ b →
    orientation_after (a + b) o (n * 4 ^ b + r) ≡ orientation_after b (orientation_after a o n) r
unfolding orientation_after
orientation_join zero b o n r hn hr =
    let e0 : n ≡ 0 = omega arith in
    let e : n * 4 ^ b + r ≡ r = ap (λ z. z * 4 ^ b + r) e0 ∙ omega arith in
    rw (zero-add b, e) refl
orientation_join (suc a) b o n r hn hr =
    let w = blocks n r (4 ^ a) (4 ^ b) (four_pos a) hr in
    let below = mod_below n (4 ^ a) (four_pos a) in
    rw (suc-add a b, orientation_after, pow-add 4 a b, w.whole, w.rest)
    (orientation_join a b (bit_xor o (turn (n / 4 ^ a))) (n % 4 ^ a) r below hr)

pub orientation_below : (k o n : ℕ) → o < 4 → n < 4 ^ k → orientation_after k o n < 4
unfolding orientation_after
orientation_below zero o n ho hn = ho
orientation_below (suc k) o n ho hn =
    orientation_below k (bit_xor o (turn (n / 4 ^ k))) (n % 4 ^ k)
    (turn_keeps o (n / 4 ^ k) ho (digit_below k n hn)) (mod_below n (4 ^ k) (four_pos k))

-- a way of `a` levels and a way of `b` levels below it make a way
pub at_join : (a b o n x y m u v : ℕ) → At a o n x y → At b (orientation_after a o n) m u v →
    At (a + b) o (n * 4 ^ b + m) (x * 2 ^ b + u) (y * 2 ^ b + v)
unfolding At orientation_after
at_join zero b o n x y m u v (e, f, g) rest =
    let en : n * 4 ^ b + m ≡ m = ap (λ z. z * 4 ^ b + m) e ∙ omega arith in
    let ex : x * 2 ^ b + u ≡ u = ap (λ z. z * 2 ^ b + u) f ∙ omega arith in
    let ey : y * 2 ^ b + v ≡ v = ap (λ z. z * 2 ^ b + v) g ∙ omega arith in
    rw (zero-add b, en, ex, ey) rest
at_join (suc a) b o n x y m u v (hn, hx, hy, q, up) rest =
    let w = at_bounds b (orientation_after a (bit_xor o (turn (n / 4 ^ a))) (n % 4 ^ a)) m u v rest in
    let wn = blocks n m (4 ^ a) (4 ^ b) (four_pos a) w.leaf in
    let wx = blocks x u (2 ^ a) (2 ^ b) (pow_pos a) w.first in
    let wy = blocks y v (2 ^ a) (2 ^ b) (pow_pos a) w.second in
    let ln = mul-add-lt n (4 ^ b) m (4 ^ suc a) hn w.leaf in
    let lx = mul-add-lt x (2 ^ b) u (2 ^ suc a) hx w.first in
    let ly = mul-add-lt y (2 ^ b) v (2 ^ suc a) hy w.second in
    let en : 4 ^ suc (a + b) ≡ 4 ^ b * 4 ^ suc a = ap (λ z. 4 ^ z) (omega arith) ∙ pow-add 4 b (suc a) in
    let ex : 2 ^ suc (a + b) ≡ 2 ^ b * 2 ^ suc a = ap (λ z. 2 ^ z) (omega arith) ∙ pow-add 2 b (suc a) in
    let deep = at_join a b (bit_xor o (turn (n / 4 ^ a))) (n % 4 ^ a) (x % 2 ^ a) (y % 2 ^ a) m u v up rest in
    let bn : n * 4 ^ b + m < 4 ^ suc (a + b) = rw en ln in
    let bx : x * 2 ^ b + u < 2 ^ suc (a + b) = rw ex lx in
    let by : y * 2 ^ b + v < 2 ^ suc (a + b) = rw ex ly in
    rw (suc-add a b) (
      bn,
      bx,
      by,
      rw (pow-add 4 a b, pow-add 2 a b, wn.whole, wx.whole, wy.whole) q,
      rw (pow-add 4 a b, pow-add 2 a b, wn.whole, wn.rest, wx.rest, wy.rest) deep,
    )

-- a number against A blocks of B
pub record Parts (n A B : ℕ) : Type 0 where
  pub whole : n / (A * B) ≡ n / B / A
  pub middle : n % (A * B) / B ≡ n / B % A
  pub rest : n % (A * B) % B ≡ n % B

pub parts : (n A B : ℕ) → 0 < A → 0 < B → Parts n A B
parts n A B ha hb =
    let w = blocks (n / B) (n % B) A B ha (mod_below n B hb) in
    let e = div-add-mod' n B in
    let r : n % (A * B) ≡ (n / B % A) * B + n % B = ap (λ z. z % (A * B)) (sym e) ∙ w.rest in
    record {
      whole = ap (λ z. z / (A * B)) (sym e) ∙ w.whole;
      middle = ap (λ z. z / B) r ∙ div-mul-add (n / B % A) B (n % B) (mod_below n B hb);
      rest = ap (λ z. z % B) r ∙ mod-mul-add (n / B % A) B (n % B) (mod_below n B hb);
    }

-- the first levels of a way: the cell of a leaf is at the cell of its place
pub at_above : (a b o n x y : ℕ) → At (a + b) o n x y → At a o (n / 4 ^ b) (x / 2 ^ b) (y / 2 ^ b)
unfolding At
at_above zero b o n x y way =
    let w = at_bounds (0 + b) o n x y way in
    let e = zero-add b in
    (div-eq_of_lt (rw e at w.leaf), div-eq_of_lt (rw e at w.first), div-eq_of_lt (rw e at w.second))
at_above (suc a) b o n x y way =
    let w = rw (suc-add a b) at way in
    let pn = parts n (4 ^ a) (4 ^ b) (four_pos a) (four_pos b) in
    let px = parts x (2 ^ a) (2 ^ b) (pow_pos a) (pow_pos b) in
    let py = parts y (2 ^ a) (2 ^ b) (pow_pos a) (pow_pos b) in
    let en : 4 ^ suc (a + b) ≡ 4 ^ suc a * 4 ^ b = ap (λ z. 4 ^ z) (sym (suc-add a b)) ∙ pow-add 4 (suc a) b in
    let ex : 2 ^ suc (a + b) ≡ 2 ^ suc a * 2 ^ b = ap (λ z. 2 ^ z) (sym (suc-add a b)) ∙ pow-add 2 (suc a) b in
    let deep = at_above a b (bit_xor o (turn (n / 4 ^ (a + b)))) (n % 4 ^ (a + b)) (x % 2 ^ (a + b))
    (y % 2 ^ (a + b)) w.4 in (
      div_below n (4 ^ b) (4 ^ suc a) (four_pos b) (rw en at w.0),
      div_below x (2 ^ b) (2 ^ suc a) (pow_pos b) (rw ex at w.1),
      div_below y (2 ^ b) (2 ^ suc a) (pow_pos b) (rw ex at w.2),
      rw (pow-add 4 a b, pow-add 2 a b, pn.whole, px.whole, py.whole) at w.3,
      rw (pow-add 4 a b, pow-add 2 a b, pn.whole, pn.middle, px.middle, py.middle) at deep,
    )
