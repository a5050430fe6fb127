-- Sizes of signed numbers, and what the code's sums and products of 128 bits are where they fit.
use Rattle.std.proofs.Common.{◌≡◌, ℕ, ◌+◌, ◌-◌, ◌*◌, ◌^◌, ◌≤◌, ◌<◌, arith, ℤ, ◌+ℤ◌, ◌-ℤ◌, ◌*ℤ◌, unsigned_abs}
use Rattle.std.proofs.Common.{FitsSigned, to_z, of_z, mul-le-mul, w64, ap, ap₂, ◌∙◌}
use Rattle.std.proofs.lemmas.Int.{ints, fits_signed_from_abs, unsigned_abs-mul, to_z-of_z}
use mir.Syntax.{w128}

pub within_product : (x y : ℤ) (m n : ℕ) → unsigned_abs x ≤ m → unsigned_abs y ≤ n → unsigned_abs (x *ℤ y) ≤ m * n
within_product x y m n h k = rw (unsigned_abs-mul x y) (mul-le-mul h k)

pub within_sum : (x y : ℤ) (m n : ℕ) → unsigned_abs x ≤ m → unsigned_abs y ≤ n → unsigned_abs (x +ℤ y) ≤ m + n
within_sum x y m n h k = omega (arith, ints)

pub within_difference : (x y : ℤ) (m n : ℕ) → unsigned_abs x ≤ m → unsigned_abs y ≤ n → unsigned_abs (x -ℤ y) ≤ m + n
within_difference x y m n h k = omega (arith, ints)

pub within_64 : (x : ℤ) → FitsSigned w64 x → unsigned_abs x ≤ 2 ^ 63
within_64 x f = omega (arith, ints)

-- one step of the code on numbers that fit: it fits, and it is the sum, the difference or the product
pub record Step (code exact : ℤ) : Type 0 where
  pub fits : FitsSigned w128 code
  pub is : to_z w128 (of_z w128 code) ≡ exact

kept : (x : ℤ) → unsigned_abs x < 2 ^ 127 → to_z w128 (of_z w128 x) ≡ x
kept x h = to_z-of_z w128 x (fits_signed_from_abs w128 x h)

pub sum_step : (x y : ℤ) → unsigned_abs x < 2 ^ 127 → unsigned_abs y < 2 ^ 127 → unsigned_abs (x +ℤ y) < 2 ^ 127
    → Step (to_z w128 (of_z w128 x) +ℤ to_z w128 (of_z w128 y)) (x +ℤ y)
sum_step x y h k s = rw (kept x h, kept y k) (record {
  fits = fits_signed_from_abs w128 (x +ℤ y) s;
  is = kept
      (x +ℤ y) s;
})

pub difference_step : (x y : ℤ) → unsigned_abs x < 2 ^ 127 → unsigned_abs y < 2 ^ 127 → unsigned_abs (x -ℤ y) < 2 ^ 127
    → Step (to_z w128 (of_z w128 x) -ℤ to_z w128 (of_z w128 y)) (x -ℤ y)
difference_step x y h k s = rw (kept x h, kept y k) (record {
  fits = fits_signed_from_abs w128 (x -ℤ y) s;
  is = kept
      (x -ℤ y) s;
})

-- a callee's product, whose arguments went to bits
pub exact : (r a b : ℤ) → FitsSigned w64 a → FitsSigned w64 b → r ≡ to_z w64 (of_z w64 a) *ℤ to_z w64 (of_z w64 b)
    → r ≡ a *ℤ b
exact r a b f g h = h ∙ ap₂ (λ (x y : ℤ). x *ℤ y) (to_z-of_z w64 a f) (to_z-of_z w64 b g)

pub exact_right : (r w b : ℤ) → FitsSigned w64 b → r ≡ w *ℤ to_z w64 (of_z w64 b) → r ≡ w *ℤ b
exact_right r w b f h = h ∙ ap (λ (x : ℤ). w *ℤ x) (to_z-of_z w64 b f)

-- a difference of two products of numbers of 64 bits, the one of which is less than 2 ^ 62
pub whole_first : (p q w c d e : ℤ) → p ≡ w *ℤ c → q ≡ d *ℤ e → unsigned_abs w ≤ 2 ^ 62 → FitsSigned w64 c
    → FitsSigned w64 d → FitsSigned w64 e
    → Step (to_z w128 (of_z w128 p) -ℤ to_z w128 (of_z w128 q)) (w *ℤ c -ℤ d *ℤ e)
whole_first p q w c d e hp hq hw fc fd fe =
    let x = within_product w c (2 ^ 62) (2 ^ 63) hw (within_64 c fc) in
    let y = within_product d e (2 ^ 63) (2 ^ 63) (within_64 d fd) (within_64 e fe) in
    let z = within_difference (w *ℤ c) (d *ℤ e) (2 ^ 62 * 2 ^ 63) (2 ^ 63 * 2 ^ 63) x y in
    rw (hp, hq) (difference_step (w *ℤ c) (d *ℤ e) (omega arith) (omega arith) (omega arith))

pub whole_last : (p q w c d e : ℤ) → p ≡ d *ℤ e → q ≡ w *ℤ c → unsigned_abs w ≤ 2 ^ 62 → FitsSigned w64 c
    → FitsSigned w64 d → FitsSigned w64 e
    → Step (to_z w128 (of_z w128 p) -ℤ to_z w128 (of_z w128 q)) (d *ℤ e -ℤ w *ℤ c)
whole_last p q w c d e hp hq hw fc fd fe =
    let x = within_product w c (2 ^ 62) (2 ^ 63) hw (within_64 c fc) in
    let y = within_product d e (2 ^ 63) (2 ^ 63) (within_64 d fd) (within_64 e fe) in
    let z = within_difference (d *ℤ e) (w *ℤ c) (2 ^ 63 * 2 ^ 63) (2 ^ 62 * 2 ^ 63) y x in
    rw (hp, hq) (difference_step (d *ℤ e) (w *ℤ c) (omega arith) (omega arith) (omega arith))

-- a difference of two products of coordinates, in 64 bits
pub record ShortSteps (first last code exact : ℤ) : Type 0 where
  pub first_fits : FitsSigned w64 first
  pub last_fits : FitsSigned w64 last
  pub fits : FitsSigned w64 code
  pub is : to_z w64 (of_z w64 code) ≡ exact

short_fits : (x : ℤ) → unsigned_abs x < 2 ^ 63 → FitsSigned w64 x
short_fits x h = fits_signed_from_abs w64 x h

exact_steps : (a b c d : ℤ) → unsigned_abs a < 2 ^ 31 → unsigned_abs b < 2 ^ 31 → unsigned_abs c < 2 ^ 31
    → unsigned_abs d < 2 ^ 31
    → ShortSteps (a *ℤ b) (c *ℤ d) (to_z w64 (of_z w64 (a *ℤ b)) -ℤ to_z w64 (of_z w64 (c *ℤ d))) (a *ℤ b -ℤ c *ℤ d)
exact_steps a b c d ha hb hc hd =
    let x = within_product a b (2 ^ 31 - 1) (2 ^ 31 - 1) (omega arith) (omega arith) in
    let y = within_product c d (2 ^ 31 - 1) (2 ^ 31 - 1) (omega arith) (omega arith) in
    let z = within_difference (a *ℤ b) (c *ℤ d) ((2 ^ 31 - 1) * (2 ^ 31 - 1)) ((2 ^ 31 - 1) * (2 ^ 31 - 1)) x y in
    let p = short_fits (a *ℤ b) (omega arith) in
    let q = short_fits (c *ℤ d) (omega arith) in
    let r = short_fits (a *ℤ b -ℤ c *ℤ d) (omega arith) in
    let e = to_z-of_z w64 (a *ℤ b) p in
    let f = to_z-of_z w64 (c *ℤ d) q in
    record {
      first_fits = p;
      last_fits = q;
      fits = rw (e, f) r;
      is = rw (e, f) (to_z-of_z w64 (a *ℤ b -ℤ c *ℤ d) r);
    }

-- the same of coordinates that are read from bits
pub read : (x : ℤ) → unsigned_abs x < 2 ^ 31 → to_z w64 (of_z w64 x) ≡ x
read x h = to_z-of_z w64 x (short_fits x (omega arith))

pub minor_steps : (a b c d : ℤ) → unsigned_abs a < 2 ^ 31 → unsigned_abs b < 2 ^ 31 → unsigned_abs c < 2 ^ 31
    → unsigned_abs d < 2 ^ 31
    → ShortSteps (to_z w64 (of_z w64 a) *ℤ to_z w64 (of_z w64 b)) (to_z w64 (of_z w64 c) *ℤ to_z w64 (of_z w64 d))
    (to_z w64 (of_z w64 (to_z w64 (of_z w64 a) *ℤ to_z w64 (of_z w64 b))) -ℤ to_z w64
    (of_z w64 (to_z w64 (of_z w64 c) *ℤ to_z w64 (of_z w64 d))))
    (a *ℤ b -ℤ c *ℤ d)
minor_steps a b c d ha hb hc hd = rw (read a ha, read b hb, read c hc, read d hd) (exact_steps a b c d ha hb hc hd)

-- what a call passes on, which went to bits, is as small
pub passed_64 : (x : ℤ) (n : ℕ) → FitsSigned w64 x → unsigned_abs x ≤ n → unsigned_abs (to_z w64 (of_z w64 x)) ≤ n
passed_64 x n f h = rw (to_z-of_z w64 x f) h

-- a product of a place and a coordinate of a normal
pub placed_within : (r p n : ℤ) → r ≡ p *ℤ n → unsigned_abs p ≤ 2 ^ 62 → FitsSigned w64 n → unsigned_abs r ≤ 2 ^ 125
placed_within r p n e hp fn = let x = within_product p n (2 ^ 62) (2 ^ 63) hp (within_64 n fn) in rw e (omega arith)

-- a product of two coordinates
pub short_within : (r a b : ℤ) → r ≡ a *ℤ b → unsigned_abs a < 2 ^ 31 → unsigned_abs b < 2 ^ 31
    → unsigned_abs r ≤ 2 ^ 125
short_within r a b e ha hb = let x = within_product a b (2 ^ 31) (2 ^ 31) (omega arith) (omega arith) in rw e
    (omega arith)

-- a sum of three
pub record ThreeSteps (first code exact : ℤ) : Type 0 where
  pub first_fits : FitsSigned w128 first
  pub step : Step code exact

pub three_steps : (x y z : ℤ) → unsigned_abs x ≤ 2 ^ 125 → unsigned_abs y ≤ 2 ^ 125 → unsigned_abs z ≤ 2 ^ 125
    → ThreeSteps (to_z w128 (of_z w128 x) +ℤ to_z w128 (of_z w128 y))
    (to_z w128 (of_z w128 (to_z w128 (of_z w128 x) +ℤ to_z w128 (of_z w128 y))) +ℤ to_z w128 (of_z w128 z))
    (x +ℤ y +ℤ z)
three_steps x y z h k l =
    let first = within_sum x y (2 ^ 125) (2 ^ 125) h k in
    let all = within_sum (x +ℤ y) z (2 ^ 125 + 2 ^ 125) (2 ^ 125) first l in
    let one = sum_step x y (omega arith) (omega arith) (omega arith) in
    record {
      first_fits = one.fits;
      step = rw (one.is, kept z (omega arith))
          (record {
            fits = fits_signed_from_abs w128 (x +ℤ y +ℤ z) (omega arith);
            is = kept (x +ℤ y +ℤ z)
                (omega arith);
          });
    }
