-- An edge that meets the square of a cell meets that of one of its quarters, with a margin too.
use Rattle.std.proofs.Common.{◌≡◌, ℕ, suc, ◌+◌, ◌*◌, ◌/◌, ◌^◌, ◌⊎◌, arith, ℤ, pos, ◌+ℤ◌, ◌-ℤ◌, ◌*ℤ◌, ◌≤ℤ◌}
use Rattle.std.proofs.Common.{◌<ℤ◌, inl, inr, ap, pow-suc}
use Rattle.std.proofs.lemmas.Int.{ints, by_lt_z}
use Rattle.s2polygon.proofs.Integers.{at, ◌⊕◌, ◌⊖◌, ◌⊗◌, at_most, at_most_parts, product_at_least, weaken}
use Rattle.s2polygon.proofs.Larger.{before}
use Rattle.s2polygon.proofs.Tests.{widened_wide}
use Rattle.s2polygon.specs.Cells.{square_of, widened}
use Rattle.s2polygon.specs.Meets.{MeetsSquare, mix}
use Rattle.s2polygon.specs.Places.{along}
use Rattle.s2polygon.specs.declared.frames.Framed.{Framed}

-- the direction lies between two places of a side, with a margin
record Lies (m : ℕ) (lo hi p w : ℤ) : Type 0 where
  first : pos 0 ≤ℤ (pos (3 * 2 ^ 60) *ℤ p -ℤ (lo -ℤ pos m) *ℤ w)
  last : pos 0 ≤ℤ ((hi +ℤ pos m) *ℤ w -ℤ pos (3 * 2 ^ 60) *ℤ p)

-- what lies beyond a place lies beyond it with a margin, and what lies short of it too
short_with : (k m : ℕ) (t p w : ℤ) → pos 0 ≤ℤ w → (pos k *ℤ p -ℤ t *ℤ w) ≤ℤ pos 0 → pos 0 ≤ℤ
    ((t +ℤ pos m) *ℤ w -ℤ pos k *ℤ p)
short_with k m t p w before h =
    let f = at_most_parts (at (pos k) ⊗ at p ⊖ at t ⊗ at w) (at (pos 0)) h in
    let g = at_most_parts (at (pos 0)) (at (pos m) ⊗ at w) (product_at_least (pos m) w (omega (arith, ints)) before) in
    at_most (at (pos 0)) ((at t ⊕ at (pos m)) ⊗ at w ⊖ at (pos k) ⊗ at p) (omega arith)

beyond_with : (k m : ℕ) (t p w : ℤ) → pos 0 ≤ℤ w → pos 0 ≤ℤ (pos k *ℤ p -ℤ t *ℤ w) → pos 0 ≤ℤ
    (pos k *ℤ p -ℤ (t -ℤ pos m) *ℤ w)
beyond_with k m t p w before h =
    let f = at_most_parts (at (pos 0)) (at (pos k) ⊗ at p ⊖ at t ⊗ at w) h in
    let g = at_most_parts (at (pos 0)) (at (pos m) ⊗ at w) (product_at_least (pos m) w (omega (arith, ints)) before) in
    at_most (at (pos 0)) (at (pos k) ⊗ at p ⊖ (at t ⊖ at (pos m)) ⊗ at w) (omega arith)

-- it lies in one of the two halves
lies_in_half : (m : ℕ) (lo mid hi p w : ℤ) → pos 0 ≤ℤ w → Lies m lo hi p w → Lies m lo mid p w ⊎ Lies m mid hi p w
lies_in_half m lo mid hi p w before l =
    by_lt_z (pos 0) (pos (3 * 2 ^ 60) *ℤ p -ℤ mid *ℤ w)
    (λ (beyond : pos 0 <ℤ (pos (3 * 2 ^ 60) *ℤ p -ℤ mid *ℤ w)).
    inr (record {
      first = beyond_with (3 * 2 ^ 60) m mid p w before (weaken (pos 0) (pos (3 * 2 ^ 60) *ℤ p -ℤ mid *ℤ w) beyond);
      last = l.last;
    }))
    (λ (short : (pos (3 * 2 ^ 60) *ℤ p -ℤ mid *ℤ w) ≤ℤ pos 0).
    inl (record { first = l.first; last = short_with (3 * 2 ^ 60) m mid p w before short }))

-- the half of a cell's side, by its number
record Half (m k i : ℕ) (p w : ℤ) : Type 0 where
  half : ℕ
  of : half / 2 ≡ i
  lies : Lies m (along (2 * (half * 2 ^ k))) (along (2 * (half * 2 ^ k + 2 ^ k))) p w

half_of : (m k i : ℕ) (p w : ℤ) → pos 0 ≤ℤ w
    → Lies m (along (2 * (i * 2 ^ suc k))) (along (2 * (i * 2 ^ suc k + 2 ^ suc k))) p w → Half m k i p w
half_of m k i p w before l =
    let two = pow-suc 2 k in
    let first : i * 2 ^ suc k ≡ 2 * i * 2 ^ k = omega (arith, ap (λ (t : ℕ). i * t) two) in
    let mid : 2 * i * 2 ^ k + 2 ^ k ≡ (2 * i + 1) * 2 ^ k = omega arith in
    let last : i * 2 ^ suc k + 2 ^ suc k ≡ (2 * i + 1) * 2 ^ k + 2 ^ k = omega
    (arith, ap (λ (t : ℕ). i * t) two, two) in
    let in_halves = rw (last, first) at l in
    elim (lies_in_half m (along (2 * (2 * i * 2 ^ k))) (along (2 * ((2 * i + 1) * 2 ^ k)))
    (along (2 * ((2 * i + 1) * 2 ^ k + 2 ^ k))) p w before in_halves) [
      | inl a ↦ record { half = 2 * i; of = omega arith; lies = rw mid a }
      | inr b ↦ record { half = 2 * i + 1; of = omega arith; lies = b }
    ]

-- the quarter of a cell that an edge meets
pub record Quarter (m k i j : ℕ) (a b : Framed) : Type 0 where
  pub x : ℕ
  pub y : ℕ
  pub column : x / 2 ≡ i
  pub row : y / 2 ≡ j
  pub meets : MeetsSquare a b (widened m (square_of k x y))

pub quarter_met : (m k i j : ℕ) (a b : Framed) → MeetsSquare a b (widened m (square_of (suc k) i j))
    → Quarter m k i j a b
quarter_met m k i j a b met =
    let c = mix met.x met.y a b in
    let w = before c (widened m (square_of (suc k) i j)) (inl (widened_wide m (suc k) i j)) met.inside in
    let u = half_of m k i c.u c.w w (record { first = met.inside.first_column; last = met.inside.last_column }) in
    let v = half_of m k j c.v c.w w (record { first = met.inside.first_row; last = met.inside.last_row }) in
    record {
      x = u.half;
      y = v.half;
      column = u.of;
      row = v.of;
      meets = record {
        x = met.x;
        y = met.y;
        x_at_least = met.x_at_least;
        y_at_least = met.y_at_least;
        not_both = met.not_both;
        inside = record {
          first_column = u.lies.first;
          last_column = u.lies.last;
          first_row = v.lies.first;
          last_row = v.lies.last;
        };
      };
    }
