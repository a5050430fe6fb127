-- Closed rings on one face: a way along rows and columns has the parity of the rays from its two ends.
use Rattle.std.proofs.Common.{◌≡◌, refl, sym, ap, ap₂, ◌∙◌, ℕ, zero, suc, ◌+◌, ◌*◌, ◌/◌, ◌^◌, ◌≤◌, ◌<◌, arith}
use Rattle.std.proofs.Common.{Bool, false, List, [], ◌∷◌}
use Rattle.std.proofs.Common.{All}
use Rattle.std.proofs.Common.{pow-suc}
use Rattle.std.proofs.lemmas.List.Elements.{All-cons, All-head, All-nil, All-tail}
use Rattle.std.proofs.Math.Bool.{xor}
use Rattle.std.proofs.Math.Nat.{div-eq_of_lt}
use Rattle.std.specs.List.{list_any}
use Rattle.s2cell.specs.Curve.{i_of, j_of}
use Rattle.s2polygon.proofs.Cells.{middle_within}
use Rattle.s2polygon.proofs.Changes.{xor_none, xor_self}
use Rattle.s2polygon.proofs.Steps.{xor_pairs}
use Rattle.s2polygon.proofs.Tests.{leaves_out_near}
use Rattle.s2polygon.proofs.Turned.{below_side, drop, further, or_false}
use Rattle.s2polygon.specs.Cells.{odd_of, square_of, step_to, widened}
use Rattle.s2polygon.specs.Directions.{Point}
use Rattle.s2polygon.specs.Parity.{is_odd_along, is_odd_by, is_odd_over}
use Rattle.s2polygon.specs.Tests.{meets_square}
use Rattle.s2polygon.specs.Ways.{row, column, middle_of}
use Rattle.s2polygon.specs.Working.Holding.{Misses}
use Rattle.s2polygon.specs.declared.directions.Edge.{Edge}
use Rattle.s2polygon.specs.declared.frames.FramedEdge.{FramedEdge}

-- ---- ways of which each piece has the parity of its two ends
middle_most : (n k i : ℕ) → n + k ≡ 30 → i < 2 ^ n → middle_of k i ≤ 2 ^ 31
middle_most n k i e h = (middle_within n k 30 i 0 e (div-eq_of_lt h)).to

pub record HasEnds (edges : List FramedEdge) (g : ℕ → ℕ → Bool) : Type 0 where
  pub rows : (m s u : ℕ) → 2 * m + 1 ≤ 2 ^ 31 → s ≤ 2 ^ 31 → u ≤ 2 ^ 31
      → is_odd_over (row (2 * m + 1) s u) edges ≡ xor (g s (2 * m + 1)) (g u (2 * m + 1))
  pub columns : (m n p : ℕ) → 2 * m + 1 ≤ 2 ^ 31 → 2 * n + 1 ≤ 2 ^ 31 → 2 * p + 1 ≤ 2 ^ 31
      → is_odd_over (column (2 * m + 1) (2 * n + 1) (2 * p + 1)) edges
      ≡ xor (g (2 * m + 1) (2 * n + 1)) (g (2 * m + 1) (2 * p + 1))

module _ (edges : List FramedEdge) (g : ℕ → ℕ → Bool) (ends : HasEnds edges g) where
  step_over : (k i j : ℕ) → middle_of (suc k) (i / 2) ≤ 2 ^ 31 → middle_of (suc k) (j / 2) ≤ 2 ^ 31
      → middle_of k i ≤ 2 ^ 31 → middle_of k j ≤ 2 ^ 31
      → is_odd_along (step_to k i j) edges
      ≡ xor (g (middle_of (suc k) (i / 2)) (middle_of (suc k) (j / 2))) (g (middle_of k i) (middle_of k j))
  step_over k i j h l m n =
      ap₂ xor (ends.rows (j / 2 * 2 ^ suc k + 2 ^ suc k / 2) (middle_of (suc k) (i / 2)) (middle_of k i) l h m)
      (xor_none (is_odd_over (column (middle_of k i) (middle_of (suc k) (j / 2)) (middle_of k j)) edges)
      ∙ ends.columns (i * 2 ^ k + 2 ^ k / 2) (j / 2 * 2 ^ suc k + 2 ^ suc k / 2) (j * 2 ^ k + 2 ^ k / 2) m l n)
      ∙ drop (g (middle_of (suc k) (i / 2)) (middle_of (suc k) (j / 2)))
      (g (middle_of k i) (middle_of (suc k) (j / 2))) (g (middle_of k i) (middle_of k j))

  below_over : (top : Bool) (n k i j : ℕ) → n + k ≡ 30 → i < 2 ^ n → j < 2 ^ n → odd_of top edges n k i j
      ≡ xor top (xor (g (middle_of 30 0) (middle_of 30 0)) (g (middle_of k i) (middle_of k j)))
  below_over top zero k i j e hi hj =
      let p : k ≡ 30 = omega arith in
      let q : i ≡ 0 = omega arith in
      let r : j ≡ 0 = omega arith in
      rw (p, q, r) (sym (ap (xor top) (xor_self (g (middle_of 30 0) (middle_of 30 0))) ∙ xor_none top))
  below_over top (suc n) k i j e hi hj =
      let two = pow-suc 2 n in
      let up_i : i / 2 < 2 ^ n = omega (arith, two) in
      let up_j : j / 2 < 2 ^ n = omega (arith, two) in
      ap₂ xor (below_over top n (suc k) (i / 2) (j / 2) (omega arith) up_i up_j)
      (step_over k i j (middle_most n (suc k) (i / 2) (omega arith) up_i)
      (middle_most n (suc k) (j / 2) (omega arith) up_j) (middle_most (suc n) k i e hi) (middle_most (suc n) k j e hj))
      ∙ further top (g (middle_of 30 0) (middle_of 30 0)) (g (middle_of (suc k) (i / 2)) (middle_of (suc k) (j / 2)))
      (g (middle_of k i) (middle_of k j))

  -- a leaf, by the way to it from the middle of its face
  pub leaf_by : (top : Bool) (x : ℕ) → odd_of top edges 30 0 (i_of x) (j_of x)
      ≡ xor top (xor (g (middle_of 30 0) (middle_of 30 0)) (g (middle_of 0 (i_of x)) (middle_of 0 (j_of x))))
  leaf_by top x = below_over top 30 0 (i_of x) (j_of x) refl (below_side x).0 (below_side x).1

-- ---- closed lists of edges
-- each test of directions differs at the two ends of an even number of the edges
abbrev pub IsClosed : List Edge → Type 0
IsClosed es = (test : Point → Bool) → is_odd_by (λ e. xor (test e.a) (test e.b)) es ≡ false

pub odd_xor : (p q : Edge → Bool) (es : List Edge) → is_odd_by (λ e. xor (p e) (q e)) es
    ≡ xor (is_odd_by p es) (is_odd_by q es)
odd_xor p q [] = sym (xor_self false)
odd_xor p q (e ∷ es) = ap (xor (xor (p e) (q e))) (odd_xor p q es)
    ∙ xor_pairs (p e) (q e) (is_odd_by p es) (is_odd_by q es)

pub odd_same : (p q : Edge → Bool) (P : Edge → Type 0) → ((e : Edge) → P e → p e ≡ q e) → (es : List Edge) → All P es
    → is_odd_by p es ≡ is_odd_by q es
odd_same p q P h [] a = refl
odd_same p q P h (e ∷ es) a = ap₂ xor (h e (All-head P e es a)) (odd_same p q P h es (All-tail P e es a))

-- ---- leaves that no edge touches
pub all_missed : (m i j : ℕ) (es : List FramedEdge) → list_any (meets_square (widened m (square_of 0 i j))) es ≡ false
    → All (λ e. Misses e (square_of 0 i j)) es
all_missed m i j [] e = All-nil (λ e. Misses e (square_of 0 i j))
all_missed m i j (o ∷ es) e =
    let parts = or_false (meets_square (widened m (square_of 0 i j)) o)
    (list_any (meets_square (widened m (square_of 0 i j))) es) e in
    All-cons (λ e. Misses e (square_of 0 i j)) o es (leaves_out_near m 0 i j o parts.0) (all_missed m i j es parts.1)
