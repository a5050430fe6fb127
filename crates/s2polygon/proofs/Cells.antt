-- The parities of cells.
use Rattle.std.proofs.Common.{◌≡◌, refl, sym, ap, ◌∙◌, ℕ, zero, suc, ◌+◌, ◌*◌, ◌/◌, ◌%◌, ◌^◌, ◌≤◌, ◌<◌, min, max}
use Rattle.std.proofs.Common.{arith, Bool, true, false, List, [], ◌∷◌, All, filter, pow_pos, div-add-mod', mod-lt}
use Rattle.std.proofs.Common.{mul-le-mul_right, div-one, pow-add}
use Rattle.std.proofs.Math.Bool.{xor}
use Rattle.std.proofs.Math.Nat.{div-div-eq-div-mul, pow-succ'}
use Rattle.std.proofs.lemmas.List.Elements.{All-head, All-tail, All-from_recursion}
use Rattle.s2polygon.proofs.Parity.{not_crossed, same_along}
use Rattle.s2polygon.proofs.Along.{In, lesser_in, greater_in, along_follows}
use Rattle.s2polygon.specs.Cells.{square, square_of, step_to, odd_of}
use Rattle.s2polygon.specs.Parity.{is_odd_over, is_odd_along}
use Rattle.s2polygon.specs.Ways.{Piece, row, column, middle, crosses, middle_of}
use Rattle.s2polygon.specs.Working.Holding.{HoldsPiece, Misses, LeavesOutWhatMisses}
use Rattle.s2polygon.specs.declared.frames.FramedEdge.{FramedEdge}
use Rattle.s2polygon.specs.declared.places.Square.{Square}

-- ---- a cell's square holds the steps in it
within : (x X m p q : ℕ) → 0 < m → 0 < p → x / m ≡ X → q ≡ m * p → In (X * q) q (middle (x * p) p)
within x X m p q hm hp e f =
    let parts : X * m + x % m ≡ x = ap (λ (t : ℕ). t * m + x % m) (sym e) ∙ div-add-mod' x m in
    let rest = mod-lt x hm in
    let low : X * m ≤ x = omega arith in
    let high : x + 1 ≤ X * m + m = omega arith in
    let first = mul-le-mul_right p low in
    let last = mul-le-mul_right p high in
    rw f (record { from = omega arith; to = omega arith })

pub middle_within : (m k K x X : ℕ) → m + k ≡ K → x / 2 ^ m ≡ X → In (X * 2 ^ K) (2 ^ K) (middle_of k x)
middle_within m k K x X e f = within x X (2 ^ m) (2 ^ k) (2 ^ K) (pow_pos m) (pow_pos k) f
    (ap (λ (t : ℕ). 2 ^ t) (sym e) ∙ pow-add 2 m k)

pub row_held : (i j n v u w : ℕ) → In j n v → In i n u → In i n w → HoldsPiece (square i j n) (row v u w)
row_held i j n v u w hv hu hw =
    let l = lesser_in i n u w hu hw in
    let g = greater_in i n u w hu hw in
    record {
      first_column = along_follows (2 * i) (min u w) l.from;
      last_column = along_follows (max u w) (2 * (i + n)) g.to;
      first_row = along_follows (2 * j) v hv.from;
      last_row = along_follows v (2 * (j + n)) hv.to;
    }

pub column_held : (i j n u v w : ℕ) → In i n u → In j n v → In j n w → HoldsPiece (square i j n) (column u v w)
column_held i j n u v w hu hv hw =
    let l = lesser_in j n v w hv hw in
    let g = greater_in j n v w hv hw in
    record {
      first_column = along_follows (2 * i) u hu.from;
      last_column = along_follows u (2 * (i + n)) hu.to;
      first_row = along_follows (2 * j) (min v w) l.from;
      last_row = along_follows (max v w) (2 * (j + n)) g.to;
    }

shorter : (m x X : ℕ) → x / 2 ^ suc m ≡ X → x / 2 / 2 ^ m ≡ X
shorter m x X e = div-div-eq-div-mul x 2 (2 ^ m) ∙ ap (λ (t : ℕ). x / t) (sym (pow-succ' 2 m)) ∙ e

pub step_held : (m k K x y X Y : ℕ) → suc m + k ≡ K → x / 2 ^ suc m ≡ X → y / 2 ^ suc m ≡ Y → All
    (HoldsPiece (square_of K X Y)) (step_to k x y)
step_held m k K x y X Y e f g =
    let u = middle_within m (suc k) K (x / 2) X (omega arith) (shorter m x X f) in
    let v = middle_within m (suc k) K (y / 2) Y (omega arith) (shorter m y Y g) in
    let p = middle_within (suc m) k K x X e f in
    let q = middle_within (suc m) k K y Y e g in
    All-from_recursion (HoldsPiece (square_of K X Y)) (step_to k x y) (
      row_held (X * 2 ^ K) (Y * 2 ^ K) (2 ^ K) (middle_of (suc k) (y / 2)) (middle_of (suc k) (x / 2))
          (middle_of k x) v u p,
      (
        column_held (X * 2 ^ K) (Y * 2 ^ K) (2 ^ K) (middle_of k x) (middle_of (suc k) (y / 2))
            (middle_of k y) p v q,
        tt,
      ),
    )

-- ---- edges that all miss a square
both_false : (a b : Bool) → a ≡ false → b ≡ false → xor a b ≡ false
unfolding xor
both_false a b h k = rw (h, k) refl

xor_with_false : (a b : Bool) → b ≡ false → xor a b ≡ a
unfolding xor
xor_with_false true b h = rw h refl
xor_with_false false b h = rw h refl

module _ (q : Square) where
  pub even_over : (p : Piece) (es : List FramedEdge) → HoldsPiece q p → All (λ e. Misses e q) es
      → is_odd_over p es ≡ false
  even_over p [] h m = refl
  even_over p (e ∷ es) h m =
      both_false (crosses p e) (is_odd_over p es) (not_crossed p q e h (All-head (λ e. Misses e q) e es m))
      (even_over p es h (All-tail (λ e. Misses e q) e es m))

  pub even_along : (ps : List Piece) (es : List FramedEdge) → All (HoldsPiece q) ps → All (λ e. Misses e q) es
      → is_odd_along ps es ≡ false
  even_along [] es h m = refl
  even_along (p ∷ ps) es h m =
      both_false (is_odd_over p es) (is_odd_along ps es) (even_over p es (All-head (HoldsPiece q) p ps h) m)
      (even_along ps es (All-tail (HoldsPiece q) p ps h) m)

module _ (top : Bool) (edges : List FramedEdge) (n K X Y : ℕ)
    (missed : All (λ e. Misses e (square_of K X Y)) edges) where
  pub as_above : (m k x y : ℕ) → m + k ≡ K → x / 2 ^ m ≡ X → y / 2 ^ m ≡ Y → odd_of top edges (m + n) k x y
      ≡ odd_of top edges n K X Y
  as_above zero k x y e f g =
      let p : x ≡ X = sym (div-one x) ∙ f in
      let q : y ≡ Y = sym (div-one y) ∙ g in
      let same : k ≡ K = omega arith in
      let own : zero + n ≡ n = omega arith in
      rw (own, same, p, q) refl
  as_above (suc m) k x y e f g =
      let next : suc m + n ≡ suc (m + n) = omega arith in
      ap (λ (t : ℕ). odd_of top edges t k x y) next
      ∙ xor_with_false (odd_of top edges (m + n) (suc k) (x / 2) (y / 2)) (is_odd_along (step_to k x y) edges)
      (even_along (square_of K X Y) (step_to k x y) edges (step_held m k K x y X Y e f g) missed)
      ∙ as_above m (suc k) (x / 2) (y / 2) (omega arith) (shorter m x X f) (shorter m y Y g)

-- ---- one step down with the edges that are kept
pub step_with_kept : (top : Bool) (edges : List FramedEdge) (keeps : FramedEdge → Bool) (n k i j : ℕ)
    → LeavesOutWhatMisses keeps (square_of (suc k) (i / 2) (j / 2))
    → odd_of top edges (suc n) k i j ≡ xor (odd_of top edges n (suc k) (i / 2) (j / 2))
    (is_odd_along (step_to k i j) (filter keeps edges))
step_with_kept top edges keeps n k i j h =
    let one : (x : ℕ) → x / 2 ^ 1 ≡ x / 2 = λ x. refl in
    ap (xor (odd_of top edges n (suc k) (i / 2) (j / 2)))
    (sym (same_along (square_of (suc k) (i / 2) (j / 2)) keeps h (step_to k i j) edges
    (step_held 0 k (suc k) i j (i / 2) (j / 2) (omega arith) (one i) (one j))))
