-- An edge that crosses a piece of a way meets each square that holds the piece.
use Rattle.std.proofs.Common.{ℕ, arith, ℤ, pos, ◌*ℤ◌, ◌-ℤ◌, ◌≤ℤ◌, ◌<ℤ◌, inl, inr, ◌*◌, ◌^◌}
use borrow.Author.Differences.{ints}
use Rattle.s2polygon.proofs.Integers.{Expr, at, ◌⊕◌, ◌⊖◌, ◌⊗◌, value, at_most, at_most_parts, less, below_parts}
use Rattle.s2polygon.proofs.Integers.{product_at_least, product_at_most, weaken, sum_above, above_sum}
use Rattle.s2polygon.proofs.Larger.{meets_larger}
use Rattle.s2polygon.specs.Crosses.{side}
use Rattle.s2polygon.specs.Meets.{right_of, left_of, above, below, MeetsSquare}
use Rattle.s2polygon.specs.Working.Crossed.{CrossesRow, CrossesColumn}
use Rattle.s2polygon.specs.Working.Holding.{HoldsRow, HoldsColumn}
use Rattle.s2polygon.specs.declared.frames.Framed.{Framed}
use Rattle.s2polygon.specs.declared.places.Square.{Square}

-- how far a direction lies beyond a line, and short of it, as expressions
abbrev beyond : Expr → Expr → Expr → Expr → Expr
beyond k s p w = k ⊗ p ⊖ s ⊗ w

abbrev short : Expr → Expr → Expr → Expr → Expr
short k s p w = s ⊗ w ⊖ k ⊗ p

abbrev mixed : Expr → Expr → Expr → Expr → Expr
mixed x y p q = x ⊗ p ⊕ y ⊗ q

-- what a direction lies short of a line, and beyond it
beyond_line : (k : ℕ) (s p w : ℤ) → (pos k *ℤ p -ℤ s *ℤ w) <ℤ pos 0 → pos 0 <ℤ (s *ℤ w -ℤ pos k *ℤ p)
beyond_line k s p w h =
    let f = below_parts (beyond (at (pos k)) (at s) (at p) (at w)) (at (pos 0)) h in
    less (at (pos 0)) (short (at (pos k)) (at s) (at p) (at w)) (omega arith)

short_of_line : (k : ℕ) (s p w : ℤ) → (s *ℤ w -ℤ pos k *ℤ p) <ℤ pos 0 → pos 0 <ℤ (pos k *ℤ p -ℤ s *ℤ w)
short_of_line k s p w h =
    let f = below_parts (short (at (pos k)) (at s) (at p) (at w)) (at (pos 0)) h in
    less (at (pos 0)) (beyond (at (pos k)) (at s) (at p) (at w)) (omega arith)

module _ (k : ℕ) (s t aw au av bw bu bv : ℤ) where
  abbrev sided : Expr
  sided = at (pos k) ⊗ (at au ⊗ at bv ⊖ at av ⊗ at bu) ⊕ at s ⊗ (at av ⊗ at bw ⊖ at aw ⊗ at bv) ⊕ at t ⊗
      (at aw ⊗ at bu ⊖ at au ⊗ at bw)

  scaled_up : pos 0 ≤ℤ value sided → pos 0 ≤ℤ value (at (pos k) ⊗ sided)
  scaled_up h = product_at_least (pos k) (value sided) (omega (arith, ints)) h

  scaled_down : value sided ≤ℤ pos 0 → value (at (pos k) ⊗ sided) ≤ℤ pos 0
  scaled_down h = product_at_most (pos k) (value sided) (omega (arith, ints)) h

  -- the mixtures at which the edge comes to the row `t`, where `b` is above it and where it is below, and to the
  -- column `s`, where `b` is left of it and where it is right of it
  abbrev row_up : Expr → Expr → Expr
  row_up p q = mixed (beyond (at (pos k)) (at t) (at bv) (at bw)) (short (at (pos k)) (at t) (at av) (at aw)) p q

  abbrev row_down : Expr → Expr → Expr
  row_down p q = mixed (short (at (pos k)) (at t) (at bv) (at bw)) (beyond (at (pos k)) (at t) (at av) (at aw)) p q

  abbrev column_up : Expr → Expr → Expr
  column_up p q = mixed (short (at (pos k)) (at s) (at bu) (at bw)) (beyond (at (pos k)) (at s) (at au) (at aw)) p q

  abbrev column_down : Expr → Expr → Expr
  column_down p q = mixed (beyond (at (pos k)) (at s) (at bu) (at bw)) (short (at (pos k)) (at s) (at au) (at aw)) p q

  row_up_first : pos 0 ≤ℤ value sided → pos 0 ≤ℤ value (beyond (at (pos k)) (at s) (row_up (at au) (at bu))
      (row_up (at aw) (at bw)))
  row_up_first h =
      let f = at_most_parts (at (pos 0)) (at (pos k) ⊗ sided) (scaled_up h) in
      at_most (at (pos 0)) (beyond (at (pos k)) (at s) (row_up (at au) (at bu)) (row_up (at aw) (at bw))) (omega arith)

  row_up_last : value sided ≤ℤ pos 0 → pos 0 ≤ℤ value (short (at (pos k)) (at s) (row_up (at au) (at bu))
      (row_up (at aw) (at bw)))
  row_up_last h =
      let f = at_most_parts (at (pos k) ⊗ sided) (at (pos 0)) (scaled_down h) in
      at_most (at (pos 0)) (short (at (pos k)) (at s) (row_up (at au) (at bu)) (row_up (at aw) (at bw))) (omega arith)

  row_up_beyond : pos 0 ≤ℤ value (beyond (at (pos k)) (at t) (row_up (at av) (at bv)) (row_up (at aw) (at bw)))
  row_up_beyond = at_most (at (pos 0)) (beyond (at (pos k)) (at t) (row_up (at av) (at bv)) (row_up (at aw) (at bw)))
      (omega arith)

  row_up_short : pos 0 ≤ℤ value (short (at (pos k)) (at t) (row_up (at av) (at bv)) (row_up (at aw) (at bw)))
  row_up_short = at_most (at (pos 0)) (short (at (pos k)) (at t) (row_up (at av) (at bv)) (row_up (at aw) (at bw)))
      (omega arith)

  row_down_first : value sided ≤ℤ pos 0 → pos 0 ≤ℤ value (beyond (at (pos k)) (at s) (row_down (at au) (at bu))
      (row_down (at aw) (at bw)))
  row_down_first h =
      let f = at_most_parts (at (pos k) ⊗ sided) (at (pos 0)) (scaled_down h) in
      at_most (at (pos 0)) (beyond (at (pos k)) (at s) (row_down (at au) (at bu)) (row_down (at aw) (at bw)))
      (omega arith)

  row_down_last : pos 0 ≤ℤ value sided → pos 0 ≤ℤ value (short (at (pos k)) (at s) (row_down (at au) (at bu))
      (row_down (at aw) (at bw)))
  row_down_last h =
      let f = at_most_parts (at (pos 0)) (at (pos k) ⊗ sided) (scaled_up h) in
      at_most (at (pos 0)) (short (at (pos k)) (at s) (row_down (at au) (at bu)) (row_down (at aw) (at bw)))
      (omega arith)

  row_down_beyond : pos 0 ≤ℤ value (beyond (at (pos k)) (at t) (row_down (at av) (at bv)) (row_down (at aw) (at bw)))
  row_down_beyond = at_most (at (pos 0)) (beyond (at (pos k)) (at t) (row_down (at av) (at bv))
      (row_down (at aw) (at bw))) (omega arith)

  row_down_short : pos 0 ≤ℤ value (short (at (pos k)) (at t) (row_down (at av) (at bv)) (row_down (at aw) (at bw)))
  row_down_short = at_most (at (pos 0)) (short (at (pos k)) (at t) (row_down (at av) (at bv))
      (row_down (at aw) (at bw))) (omega arith)

  column_up_first : pos 0 ≤ℤ value sided → pos 0 ≤ℤ value (beyond (at (pos k)) (at t) (column_up (at av) (at bv))
      (column_up (at aw) (at bw)))
  column_up_first h =
      let f = at_most_parts (at (pos 0)) (at (pos k) ⊗ sided) (scaled_up h) in
      at_most (at (pos 0)) (beyond (at (pos k)) (at t) (column_up (at av) (at bv)) (column_up (at aw) (at bw)))
      (omega arith)

  column_up_last : value sided ≤ℤ pos 0 → pos 0 ≤ℤ value (short (at (pos k)) (at t) (column_up (at av) (at bv))
      (column_up (at aw) (at bw)))
  column_up_last h =
      let f = at_most_parts (at (pos k) ⊗ sided) (at (pos 0)) (scaled_down h) in
      at_most (at (pos 0)) (short (at (pos k)) (at t) (column_up (at av) (at bv)) (column_up (at aw) (at bw)))
      (omega arith)

  column_up_beyond : pos 0 ≤ℤ value (beyond (at (pos k)) (at s) (column_up (at au) (at bu)) (column_up (at aw) (at bw)))
  column_up_beyond = at_most (at (pos 0)) (beyond (at (pos k)) (at s) (column_up (at au) (at bu))
      (column_up (at aw) (at bw))) (omega arith)

  column_up_short : pos 0 ≤ℤ value (short (at (pos k)) (at s) (column_up (at au) (at bu)) (column_up (at aw) (at bw)))
  column_up_short = at_most (at (pos 0)) (short (at (pos k)) (at s) (column_up (at au) (at bu))
      (column_up (at aw) (at bw))) (omega arith)

  column_down_first : value sided ≤ℤ pos 0 → pos 0 ≤ℤ value (beyond (at (pos k)) (at t) (column_down (at av) (at bv))
      (column_down (at aw) (at bw)))
  column_down_first h =
      let f = at_most_parts (at (pos k) ⊗ sided) (at (pos 0)) (scaled_down h) in
      at_most (at (pos 0)) (beyond (at (pos k)) (at t) (column_down (at av) (at bv)) (column_down (at aw) (at bw)))
      (omega arith)

  column_down_last : pos 0 ≤ℤ value sided → pos 0 ≤ℤ value (short (at (pos k)) (at t) (column_down (at av) (at bv))
      (column_down (at aw) (at bw)))
  column_down_last h =
      let f = at_most_parts (at (pos 0)) (at (pos k) ⊗ sided) (scaled_up h) in
      at_most (at (pos 0)) (short (at (pos k)) (at t) (column_down (at av) (at bv)) (column_down (at aw) (at bw)))
      (omega arith)

  column_down_beyond : pos 0 ≤ℤ value (beyond (at (pos k)) (at s) (column_down (at au) (at bu))
      (column_down (at aw) (at bw)))
  column_down_beyond = at_most (at (pos 0)) (beyond (at (pos k)) (at s) (column_down (at au) (at bu))
      (column_down (at aw) (at bw))) (omega arith)

  column_down_short : pos 0 ≤ℤ value (short (at (pos k)) (at s) (column_down (at au) (at bu))
      (column_down (at aw) (at bw)))
  column_down_short = at_most (at (pos 0)) (short (at (pos k)) (at s) (column_down (at au) (at bu))
      (column_down (at aw) (at bw))) (omega arith)

up_row : (v u0 u1 : ℤ) (a b : Framed) → above v a <ℤ pos 0 → pos 0 ≤ℤ above v b → pos 0 ≤ℤ side u0 v a b
    → side u1 v a b <ℤ pos 0
    → MeetsSquare a b (record { u0 = u0; u1 = u1; v0 = v; v1 = v })
up_row v u0 u1 a b ha hb hp hq =
    let k = 3 * 2 ^ 60 in
    let y = beyond_line k v a.v a.w ha in
    record {
      x = above v b;
      y = below v a;
      x_at_least = hb;
      y_at_least = weaken (pos 0) (below v a) y;
      not_both = sum_above (above v b) (below v a) hb y;
      inside = record {
        first_column = row_up_first k u0 v a.w a.u a.v b.w b.u b.v hp;
        last_column = row_up_last k u1 v a.w a.u a.v b.w b.u b.v (weaken (side u1 v a b) (pos 0) hq);
        first_row = row_up_beyond k u0 v a.w a.u a.v b.w b.u b.v;
        last_row = row_up_short k u0 v a.w a.u a.v b.w b.u b.v;
      };
    }

down_row : (v u0 u1 : ℤ) (a b : Framed) → pos 0 ≤ℤ above v a → above v b <ℤ pos 0 → side u0 v a b <ℤ pos 0
    → pos 0 ≤ℤ side u1 v a b
    → MeetsSquare a b (record { u0 = u0; u1 = u1; v0 = v; v1 = v })
down_row v u0 u1 a b ha hb hp hq =
    let k = 3 * 2 ^ 60 in
    let x = beyond_line k v b.v b.w hb in
    record {
      x = below v b;
      y = above v a;
      x_at_least = weaken (pos 0) (below v b) x;
      y_at_least = ha;
      not_both = above_sum (below v b) (above v a) x ha;
      inside = record {
        first_column = row_down_first k u0 v a.w a.u a.v b.w b.u b.v (weaken (side u0 v a b) (pos 0) hp);
        last_column = row_down_last k u1 v a.w a.u a.v b.w b.u b.v hq;
        first_row = row_down_beyond k u0 v a.w a.u a.v b.w b.u b.v;
        last_row = row_down_short k u0 v a.w a.u a.v b.w b.u b.v;
      };
    }

up_column : (u v0 v1 : ℤ) (a b : Framed) → left_of u a <ℤ pos 0 → pos 0 ≤ℤ left_of u b → pos 0 ≤ℤ side u v0 a b
    → side u v1 a b <ℤ pos 0
    → MeetsSquare a b (record { u0 = u; u1 = u; v0 = v0; v1 = v1 })
up_column u v0 v1 a b ha hb hp hq =
    let k = 3 * 2 ^ 60 in
    let y = short_of_line k u a.u a.w ha in
    record {
      x = left_of u b;
      y = right_of u a;
      x_at_least = hb;
      y_at_least = weaken (pos 0) (right_of u a) y;
      not_both = sum_above (left_of u b) (right_of u a) hb y;
      inside = record {
        first_column = column_up_beyond k u v0 a.w a.u a.v b.w b.u b.v;
        last_column = column_up_short k u v0 a.w a.u a.v b.w b.u b.v;
        first_row = column_up_first k u v0 a.w a.u a.v b.w b.u b.v hp;
        last_row = column_up_last k u v1 a.w a.u a.v b.w b.u b.v (weaken (side u v1 a b) (pos 0) hq);
      };
    }

down_column : (u v0 v1 : ℤ) (a b : Framed) → pos 0 ≤ℤ left_of u a → left_of u b <ℤ pos 0 → side u v0 a b <ℤ pos 0
    → pos 0 ≤ℤ side u v1 a b
    → MeetsSquare a b (record { u0 = u; u1 = u; v0 = v0; v1 = v1 })
down_column u v0 v1 a b ha hb hp hq =
    let k = 3 * 2 ^ 60 in
    let x = short_of_line k u b.u b.w hb in
    record {
      x = right_of u b;
      y = left_of u a;
      x_at_least = weaken (pos 0) (right_of u b) x;
      y_at_least = ha;
      not_both = above_sum (right_of u b) (left_of u a) x ha;
      inside = record {
        first_column = column_down_beyond k u v0 a.w a.u a.v b.w b.u b.v;
        last_column = column_down_short k u v0 a.w a.u a.v b.w b.u b.v;
        first_row = column_down_first k u v0 a.w a.u a.v b.w b.u b.v (weaken (side u v0 a b) (pos 0) hp);
        last_row = column_down_last k u v1 a.w a.u a.v b.w b.u b.v hq;
      };
    }

-- it meets the piece itself
pub row_itself : (v u0 u1 : ℤ) (a b : Framed) → CrossesRow v u0 u1 a b
    → MeetsSquare a b (record { u0 = u0; u1 = u1; v0 = v; v1 = v })
row_itself v u0 u1 a b (inl c) = down_row v u0 u1 a b c.0 c.1 c.2 c.3
row_itself v u0 u1 a b (inr c) = up_row v u0 u1 a b c.0 c.1 c.2 c.3

pub column_itself : (u v0 v1 : ℤ) (a b : Framed) → CrossesColumn u v0 v1 a b
    → MeetsSquare a b (record { u0 = u; u1 = u; v0 = v0; v1 = v1 })
column_itself u v0 v1 a b (inl c) = down_column u v0 v1 a b c.0 c.1 c.2 c.3
column_itself u v0 v1 a b (inr c) = up_column u v0 v1 a b c.0 c.1 c.2 c.3

pub row_meets : (a b : Framed) (q : Square) (v u0 u1 : ℤ) → u0 <ℤ u1 → HoldsRow q v u0 u1 → CrossesRow v u0 u1 a b
    → MeetsSquare a b q
row_meets a b q v u0 u1 less holds c = meets_larger a b (record { u0 = u0; u1 = u1; v0 = v; v1 = v }) q
    (inl less) holds (row_itself v u0 u1 a b c)

pub column_meets : (a b : Framed) (q : Square) (u v0 v1 : ℤ) → v0 <ℤ v1 → HoldsColumn q u v0 v1
    → CrossesColumn u v0 v1 a b → MeetsSquare a b q
column_meets a b q u v0 v1 less holds c = meets_larger a b (record { u0 = u; u1 = u; v0 = v0; v1 = v1 }) q
    (inr less) holds (column_itself u v0 v1 a b c)
