-- Crossings as answers, and the parity of a list of edges from which some are left out.
use Rattle.std.proofs.Common.{◌≡◌, refl, sym, ap, ap₂, ◌∙◌, ℤ, pos, ◌≤ℤ◌, ◌<ℤ◌, ◌≢◌, inl, inr, Bool, true, false}
use Rattle.std.proofs.Common.{not, ◌&&◌, ◌==◌, min, max, arith, List, [], ◌∷◌, All, filter, cond}
use Rattle.std.proofs.lemmas.Int.{ints}
use Rattle.std.proofs.Math.Bool.{true≢false, xor}
use Rattle.std.proofs.lemmas.List.Elements.{All-head, All-tail}
use Rattle.std.specs.Bool.{beq, Decides}
use Rattle.std.proofs.lemmas.Bool.Decides.{Decides-and, Decides-not, Decides-eqb}
use Rattle.s2polygon.proofs.Crossings.{row_meets, column_meets}
use Rattle.s2polygon.proofs.Along.{along_rises}
use Rattle.s2polygon.specs.Crosses.{side, is_at_least_0, are_of_crossing}
use Rattle.s2polygon.specs.Meets.{MeetsSquare, above, left_of}
use Rattle.s2polygon.specs.Parity.{is_odd_over, is_odd_along}
use Rattle.s2polygon.specs.Places.{along}
use Rattle.s2polygon.specs.Ways.{Piece, row, column, crosses}
use Rattle.s2polygon.specs.Working.Crossed.{AreCrossed, CrossesPiece}
use Rattle.s2polygon.specs.Working.Holding.{HoldsPiece, Misses, LeavesOutWhatMisses}
use Rattle.s2polygon.specs.declared.frames.FramedEdge.{FramedEdge}
use Rattle.s2polygon.specs.declared.places.Square.{Square}

-- ---- what the answers say
pub from_0 : (z : ℤ) → is_at_least_0 z ≡ true → pos 0 ≤ℤ z
from_0 z e = omega (arith, ints)

pub below_0 : (z : ℤ) → is_at_least_0 z ≡ false → z <ℤ pos 0
below_0 z e = omega (arith, ints)

not_both : (z : ℤ) → pos 0 ≤ℤ z → ¬ (z <ℤ pos 0)
not_both z h k = omega (arith, ints)

pub yes : {P : Type 0} → P → Decides true P
yes p = (λ _. p, λ _. refl)

pub no : {P : Type 0} → ¬ P → Decides false P
no n = (λ e. absurd (true≢false (sym e)), λ p. absurd (n p))

module _ (a b p q : ℤ) where
  neither : ¬ ((pos 0 ≤ℤ a) × (b <ℤ pos 0) × (p <ℤ pos 0) × (pos 0 ≤ℤ q)) → ¬
      ((a <ℤ pos 0) × (pos 0 ≤ℤ b) × (pos 0 ≤ℤ p) × (q <ℤ pos 0)) → ¬ (AreCrossed a b p q)
  neither f g (inl c) = f c
  neither f g (inr c) = g c

  by_signs : (s t u v : Bool) → is_at_least_0 a ≡ s → is_at_least_0 b ≡ t → is_at_least_0 p ≡ u → is_at_least_0 q ≡ v
      → Decides (xor s t && xor u v && beq u t) (AreCrossed a b p q)
  unfolding xor
  by_signs true true u v ha hb hp hq = no (neither (λ c. not_both b (from_0 b hb) c.1)
      (λ c. not_both a (from_0 a ha) c.0))
  by_signs false false u v ha hb hp hq = no (neither (λ c. not_both a c.0 (below_0 a ha))
      (λ c. not_both b c.1 (below_0 b hb)))
  by_signs true false true true ha hb hp hq = no (neither (λ c. not_both p (from_0 p hp) c.2)
      (λ c. not_both a (from_0 a ha) c.0))
  by_signs true false true false ha hb hp hq = no (neither (λ c. not_both p (from_0 p hp) c.2)
      (λ c. not_both a (from_0 a ha) c.0))
  by_signs true false false true ha hb hp hq = yes (inl (from_0 a ha, below_0 b hb, below_0 p hp, from_0 q hq))
  by_signs true false false false ha hb hp hq = no (neither (λ c. not_both q c.3 (below_0 q hq))
      (λ c. not_both a (from_0 a ha) c.0))
  by_signs false true true true ha hb hp hq = no (neither (λ c. not_both a c.0 (below_0 a ha))
      (λ c. not_both q (from_0 q hq) c.3))
  by_signs false true true false ha hb hp hq = yes (inr (below_0 a ha, from_0 b hb, from_0 p hp, below_0 q hq))
  by_signs false true false true ha hb hp hq = no (neither (λ c. not_both a c.0 (below_0 a ha))
      (λ c. not_both p c.2 (below_0 p hp)))
  by_signs false true false false ha hb hp hq = no (neither (λ c. not_both a c.0 (below_0 a ha))
      (λ c. not_both p c.2 (below_0 p hp)))

  pub are_of_crossing_decides : Decides (are_of_crossing a b p q) (AreCrossed a b p q)
  are_of_crossing_decides = by_signs (is_at_least_0 a) (is_at_least_0 b) (is_at_least_0 p)
      (is_at_least_0 q) refl refl refl refl

pub crosses_decides : (p : Piece) (e : FramedEdge) → Decides (crosses p e) (CrossesPiece p e.a e.b)
crosses_decides (row v u w) e =
    Decides-and (not (u == w)) _ (Decides-not (u == w) (Decides-eqb u w))
    (are_of_crossing_decides (above (along v) e.a) (above (along v) e.b) (side (along (min u w)) (along v) e.a e.b)
    (side (along (max u w)) (along v) e.a e.b))
crosses_decides (column u v w) e =
    Decides-and (not (v == w)) _ (Decides-not (v == w) (Decides-eqb v w))
    (are_of_crossing_decides (left_of (along u) e.a) (left_of (along u) e.b)
    (side (along u) (along (min v w)) e.a e.b) (side (along u) (along (max v w)) e.a e.b))

-- ---- what misses crosses nothing
crossing_meets : (p : Piece) (q : Square) (e : FramedEdge) → HoldsPiece q p → CrossesPiece p e.a e.b
    → MeetsSquare e.a e.b q
crossing_meets (row v u w) q e h c =
    let apart : u ≢ w = c.0 in
    row_meets e.a e.b q (along v) (along (min u w)) (along (max u w))
    (along_rises (min u w) (max u w) (omega arith)) h c.1
crossing_meets (column u v w) q e h c =
    let apart : v ≢ w = c.0 in
    column_meets e.a e.b q (along u) (along (min v w)) (along (max v w))
    (along_rises (min v w) (max v w) (omega arith)) h c.1

pub not_crossed : (p : Piece) (q : Square) (e : FramedEdge) → HoldsPiece q p → Misses e q → crosses p e ≡ false
not_crossed p q e h m = by (crosses p e) refl
  where
    by : (r : Bool) → crosses p e ≡ r → crosses p e ≡ false
    by false is = is
    by true is = absurd (m (crossing_meets p q e h ((crosses_decides p e).0 is)))

pub xor_false : (b : Bool) → xor false b ≡ b
unfolding xor
xor_false true = refl
xor_false false = refl

-- ---- lists from which edges are left out
module _ (q : Square) (keeps : FramedEdge → Bool) (leaves : LeavesOutWhatMisses keeps q) where
  one_over : (p : Piece) (e : FramedEdge) (es kept : List FramedEdge) (k : Bool) → keeps e ≡ k → HoldsPiece q p
      → is_odd_over p kept ≡ is_odd_over p es
      → is_odd_over p (cond k (e ∷ kept) kept) ≡ xor (crosses p e) (is_odd_over p es)
  one_over p e es kept true is h same = ap (xor (crosses p e)) same
  one_over p e es kept false is h same =
      same ∙ sym (ap (λ (c : Bool). xor c (is_odd_over p es)) (not_crossed p q e h (leaves e is)) ∙ xor_false
      (is_odd_over p es))

  pub same_over : (p : Piece) (es : List FramedEdge) → HoldsPiece q p → is_odd_over p (filter keeps es)
      ≡ is_odd_over p es
  same_over p [] h = refl
  same_over p (e ∷ es) h = one_over p e es (filter keeps es) (keeps e) refl h (same_over p es h)

  pub same_along : (ps : List Piece) (es : List FramedEdge) → All (HoldsPiece q) ps → is_odd_along ps
      (filter keeps es) ≡ is_odd_along ps es
  same_along [] es h = refl
  same_along (p ∷ ps) es h = ap₂ xor (same_over p es (All-head (HoldsPiece q) p ps h))
      (same_along ps es (All-tail (HoldsPiece q) p ps h))
