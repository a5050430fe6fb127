-- What meets a square meets a larger one. `k` is the scale.
use Rattle.std.proofs.Common.{ℕ, arith, ℤ, pos, ◌*ℤ◌, ◌-ℤ◌, ◌≤ℤ◌, ◌<ℤ◌, inl, inr, ◌*◌, ◌^◌}
use borrow.Author.Differences.{ints}
use Rattle.s2polygon.proofs.Integers.{at, ◌⊖◌, ◌⊗◌, at_most, at_most_parts, factor_at_least, product_at_least}
use Rattle.s2polygon.specs.Meets.{InSquare, mix, MeetsSquare}
use Rattle.s2polygon.specs.Working.Holding.{IsWide, Holds}
use Rattle.s2polygon.specs.declared.frames.Framed.{Framed}
use Rattle.s2polygon.specs.declared.places.Square.{Square}

-- what lies between two lines lies before the center
front : (k : ℕ) (s t p w : ℤ) → s <ℤ t → pos 0 ≤ℤ (pos k *ℤ p -ℤ s *ℤ w) → pos 0 ≤ℤ (t *ℤ w -ℤ pos k *ℤ p) → pos 0 ≤ℤ w
front k s t p w less h j =
    let after_first = at_most_parts (at (pos 0)) (at (pos k) ⊗ at p ⊖ at s ⊗ at w) h in
    let before_last = at_most_parts (at (pos 0)) (at t ⊗ at w ⊖ at (pos k) ⊗ at p) j in
    factor_at_least (t -ℤ s) w (omega (arith, ints)) (at_most (at (pos 0)) ((at t ⊖ at s) ⊗ at w) (omega arith))

-- a line further back
further_back : (k : ℕ) (s larger p w : ℤ) → larger ≤ℤ s → pos 0 ≤ℤ w → pos 0 ≤ℤ (pos k *ℤ p -ℤ s *ℤ w) → pos 0 ≤ℤ
    (pos k *ℤ p -ℤ larger *ℤ w)
further_back k s larger p w le before h =
    let beyond = at_most_parts (at (pos 0)) (at (pos k) ⊗ at p ⊖ at s ⊗ at w) h in
    let more = at_most_parts (at (pos 0)) ((at s ⊖ at larger) ⊗ at w)
    (product_at_least (s -ℤ larger) w (omega (arith, ints)) before) in
    at_most (at (pos 0)) (at (pos k) ⊗ at p ⊖ at larger ⊗ at w) (omega arith)

-- and one further on
further_on : (k : ℕ) (t larger p w : ℤ) → t ≤ℤ larger → pos 0 ≤ℤ w → pos 0 ≤ℤ (t *ℤ w -ℤ pos k *ℤ p) → pos 0 ≤ℤ
    (larger *ℤ w -ℤ pos k *ℤ p)
further_on k t larger p w le before h =
    let short = at_most_parts (at (pos 0)) (at t ⊗ at w ⊖ at (pos k) ⊗ at p) h in
    let more = at_most_parts (at (pos 0)) ((at larger ⊖ at t) ⊗ at w)
    (product_at_least (larger -ℤ t) w (omega (arith, ints)) before) in
    at_most (at (pos 0)) (at larger ⊗ at w ⊖ at (pos k) ⊗ at p) (omega arith)

pub before : (c : Framed) (q : Square) → IsWide q → InSquare c q → pos 0 ≤ℤ c.w
before c q (inl h) i = front (3 * 2 ^ 60) q.u0 q.u1 c.u c.w h i.first_column i.last_column
before c q (inr h) i = front (3 * 2 ^ 60) q.v0 q.v1 c.v c.w h i.first_row i.last_row

pub in_larger : (c : Framed) (q larger : Square) → IsWide q → Holds larger q → InSquare c q → InSquare c larger
in_larger c q larger wide h i =
    let w = before c q wide i in
    record {
      first_column = further_back (3 * 2 ^ 60) q.u0 larger.u0 c.u c.w h.first_column w i.first_column;
      last_column = further_on (3 * 2 ^ 60) q.u1 larger.u1 c.u c.w h.last_column w i.last_column;
      first_row = further_back (3 * 2 ^ 60) q.v0 larger.v0 c.v c.w h.first_row w i.first_row;
      last_row = further_on (3 * 2 ^ 60) q.v1 larger.v1 c.v c.w h.last_row w i.last_row;
    }

pub meets_larger : (a b : Framed) (q larger : Square) → IsWide q → Holds larger q → MeetsSquare a b q
    → MeetsSquare a b larger
meets_larger a b q larger wide h m = record {
  x = m.x;
  y = m.y;
  x_at_least = m.x_at_least;
  y_at_least = m.y_at_least;
  not_both = m.not_both;
  inside = in_larger (mix m.x m.y a b) q larger wide h m.inside;
}
