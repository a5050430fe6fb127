-- Greater margins, other leaves outside, other orders of edges, edges with no inside.
use Rattle.std.proofs.Common.{◌≡◌, refl, sym, ap, ap₂, ◌∙◌, ℕ, zero, suc, ◌+◌, ◌/◌, ◌^◌, ◌≤◌, arith, ℤ}
use Rattle.std.proofs.Common.{pos, ◌+ℤ◌, ◌-ℤ◌, ◌≤ℤ◌, Bool, true, false, not, ◌&&◌, ◌||◌, List, [], ◌∷◌, inl}
use Rattle.std.proofs.Common.{cond, ◌++◌, ◌==◌, min, max, All}
use Rattle.std.proofs.lemmas.Int.{ints}
use Rattle.std.proofs.Math.Bool.{beq, true≢false, xor}
use Rattle.std.specs.List.{list_any, sum_by}
use Rattle.std.specs.List.Sorted.{IsPermutation}
use Rattle.std.proofs.lemmas.List.Sorted.{IsPermutation-map, list_any-IsPermutation, sum_by-IsPermutation}
use Rattle.std.proofs.lemmas.List.{map-append}
use Rattle.std.proofs.lemmas.List.Elements.{All-head, All-tail}
use Rattle.std.proofs.lemmas.List.Sums.{sum_by-cons}
use Rattle.s2cell.specs.Curve.{i_of, j_of}
use Rattle.s2polygon.proofs.Larger.{meets_larger}
use Rattle.s2polygon.proofs.Parity.{xor_false}
use Rattle.s2polygon.proofs.Steps.{xor_moves}
use Rattle.s2polygon.proofs.Tests.{near_decides, widened_wide}
use Rattle.s2polygon.specs.Cells.{odd_of, square_of, step_to, widened}
use Rattle.s2polygon.specs.Crosses.{are_of_crossing, is_at_least_0, side}
use Rattle.s2polygon.specs.Faces.{crosses_border, edges_on, top_of, way_in, way_out}
use Rattle.s2polygon.specs.Frames.{framed, in_frame}
use Rattle.s2polygon.specs.Leaves.{Region, inner_leaf, inside, is_touched, odd_at, outer_leaf}
use Rattle.s2polygon.specs.Meets.{above, left_of}
use Rattle.s2polygon.specs.Parity.{is_odd_along, is_odd_by, is_odd_over}
use Rattle.s2polygon.specs.Places.{along}
use Rattle.s2polygon.specs.Tests.{meets_square}
use Rattle.s2polygon.specs.Ways.{Piece, row, column, crosses}
use Rattle.s2polygon.specs.Working.Holding.{Holds}
use Rattle.s2polygon.specs.declared.directions.Edge.{Edge}
use Rattle.s2polygon.specs.declared.frames.FramedEdge.{FramedEdge}
use Rattle.s2polygon.specs.declared.places.Square.{Square}

-- ---- margins
wider_holds : (m n : ℕ) (q : Square) → m ≤ n → Holds (widened n q) (widened m q)
wider_holds m n q h = record {
  first_column = off q.u0;
  last_column = on q.u1;
  first_row = off q.v0;
  last_row = on q.v1;
}
  where
    off : (u : ℤ) → (u -ℤ pos n) ≤ℤ (u -ℤ pos m)
    off u = omega (arith, ints)

    on : (u : ℤ) → (u +ℤ pos m) ≤ℤ (u +ℤ pos n)
    on u = omega (arith, ints)

meets_wider : (m n i j : ℕ) (e : FramedEdge) → m ≤ n → meets_square (widened m (square_of 0 i j)) e ≡ true
    → meets_square (widened n (square_of 0 i j)) e ≡ true
meets_wider m n i j e h is =
    (near_decides n 0 i j e).1 (meets_larger e.a e.b (widened m (square_of 0 i j)) (widened n (square_of 0 i j))
    (inl (widened_wide m 0 i j)) (wider_holds m n (square_of 0 i j) h) ((near_decides m 0 i j e).0 is))

pub or_more : (a b c d : Bool) → (a ≡ true → c ≡ true) → (b ≡ true → d ≡ true) → a || b ≡ true → c || d ≡ true
or_more true b c d h k p = rw (h refl) refl
or_more false b true d h k p = refl
or_more false b false d h k p = k p

any_more : (p q : FramedEdge → Bool) → ((e : FramedEdge) → p e ≡ true → q e ≡ true) → (es : List FramedEdge)
    → list_any p es ≡ true → list_any q es ≡ true
any_more p q h [] is = is
any_more p q h (e ∷ es) is = or_more (p e) (list_any p es) (q e) (list_any q es) (h e) (any_more p q h es) is

pub touched_more : (r : Region) (margin x : ℕ) → r.margin ≤ margin → is_touched r x ≡ true → is_touched
    (record r { margin = margin }) x ≡ true
unfolding is_touched
touched_more r margin x h is =
    any_more (meets_square (widened r.margin (square_of 0 (i_of x) (j_of x))))
    (meets_square (widened margin (square_of 0 (i_of x) (j_of x))))
    (λ e k. meets_wider r.margin margin (i_of x) (j_of x) e h k) (edges_on (x / 4 ^ 30) r.edges) is

pub outer_more : (r : Region) (margin x : ℕ) → r.margin ≤ margin → outer_leaf r x ≡ true → outer_leaf
    (record r { margin = margin }) x ≡ true
outer_more r margin x h is =
    or_more (is_touched r x) (inside r x) (is_touched (record r { margin = margin }) x) (inside r x)
    (touched_more r margin x h) (λ k. k) is

and_fewer : (a b c : Bool) → (b ≡ true → c ≡ true) → a && not c ≡ true → a && not b ≡ true
and_fewer a true c h p = absurd (true≢false (sym (rw (h refl) at p) ∙ none a))
  where
    none : (a : Bool) → a && false ≡ false
    none true = refl
    none false = refl
and_fewer true false c h p = refl
and_fewer false false c h p = p

pub inner_fewer : (r : Region) (margin x : ℕ) → r.margin ≤ margin → inner_leaf (record r { margin = margin }) x
    ≡ true → inner_leaf r x ≡ true
inner_fewer r margin x h is =
    and_fewer (inside r x) (is_touched r x) (is_touched (record r { margin = margin }) x) (touched_more r margin x h) is

-- ---- another leaf outside
exchange : (a b o : Bool) → xor b o ≡ true → xor a b ≡ not (xor a o)
unfolding xor
exchange true true true h = absurd (true≢false (sym h))
exchange true true false h = refl
exchange true false true h = refl
exchange true false false h = absurd (true≢false (sym h))
exchange false true true h = absurd (true≢false (sym h))
exchange false true false h = refl
exchange false false true h = refl
exchange false false false h = absurd (true≢false (sym h))

pub exchanged : (r : Region) (y x : ℕ) → inside r y ≡ true → inside (record r { outside = y }) x ≡ not (inside r x)
exchanged r y x h = exchange (odd_at r.edges x) (odd_at r.edges y) (odd_at r.edges r.outside) h

-- ---- other orders
xor_true : (b : Bool) → xor true b ≡ not b
unfolding xor
xor_true true = refl
xor_true false = refl

odd : ℕ → Bool
odd zero = false
odd (suc n) = not (odd n)

module _ {A : Type 0} (test : A → Bool) where
  one_if : A → ℕ
  one_if e = cond (test e) 1 0

  odd_one : (e : A) (n : ℕ) (t : Bool) → xor t (odd n) ≡ odd (cond t 1 0 + n)
  unfolding odd
  odd_one e n true = let s : 1 + n ≡ suc n = omega arith in rw s (xor_true (odd n))
  odd_one e n false = let s : 0 + n ≡ n = omega arith in rw s (xor_false (odd n))

  odd_counted : (es : List A) → is_odd_by test es ≡ odd (sum_by one_if es)
  unfolding odd one_if
  odd_counted [] = refl
  odd_counted (e ∷ es) = ap (xor (test e)) (odd_counted es) ∙ odd_one e (sum_by one_if es) (test e) ∙ ap odd
      (sym (sum_by-cons one_if e es))

  pub odd_permuted : (xs ys : List A) → IsPermutation xs ys → is_odd_by test ys ≡ is_odd_by test xs
  odd_permuted xs ys h = odd_counted ys ∙ ap odd (sum_by-IsPermutation one_if xs ys h) ∙ sym (odd_counted xs)

-- ---- lists whose edges cross each way alike
-- an odd number of both lists cross, or of none
record AreAlike (es fs : List Edge) : Type 0 where
  border : (f : ℕ) → is_odd_by (crosses_border f) fs ≡ is_odd_by (crosses_border f) es
  piece : (f : ℕ) (p : Piece) → is_odd_over p (edges_on f fs) ≡ is_odd_over p (edges_on f es)

module _ (es fs : List Edge) (h : AreAlike es fs) where
  along_alike : (f : ℕ) (ps : List Piece) → is_odd_along ps (edges_on f fs) ≡ is_odd_along ps (edges_on f es)
  along_alike f [] = refl
  along_alike f (p ∷ ps) = ap₂ xor (h.piece f p) (along_alike f ps)

  parity_alike : (f : ℕ) (top : Bool) (n k i j : ℕ) → odd_of top (edges_on f fs) n k i j
      ≡ odd_of top (edges_on f es) n k i j
  parity_alike f top zero k i j = refl
  parity_alike f top (suc n) k i j = ap₂ xor (parity_alike f top n (suc k) (i / 2) (j / 2))
      (along_alike f (step_to k i j))

  top_alike : (f : ℕ) → top_of fs f ≡ top_of es f
  unfolding top_of
  top_alike zero = refl
  top_alike (suc f) = ap₂ xor (top_alike f) (h.border f)

  at_alike : (x : ℕ) → odd_at fs x ≡ odd_at es x
  unfolding odd_at
  at_alike x =
      ap (λ (t : Bool). odd_of t (edges_on (x / 4 ^ 30) fs) 30 0 (i_of x) (j_of x)) (top_alike (x / 4 ^ 30))
      ∙ parity_alike (x / 4 ^ 30) (top_of es (x / 4 ^ 30)) 30 0 (i_of x) (j_of x)

inside_alike : (r : Region) (edges : List Edge) (x : ℕ) → AreAlike r.edges edges → inside
    (record r { edges = edges }) x ≡ inside r x
inside_alike r edges x h = ap₂ xor (at_alike r.edges edges h x) (at_alike r.edges edges h r.outside)

on_permuted : (es fs : List Edge) → IsPermutation es fs → (f : ℕ) → IsPermutation (edges_on f es) (edges_on f fs)
on_permuted es fs h f = IsPermutation-map (framed f) es fs h

pub inside_permuted : (r : Region) (edges : List Edge) (x : ℕ) → IsPermutation r.edges edges → inside
    (record r { edges = edges }) x ≡ inside r x
inside_permuted r edges x h = inside_alike r edges x (record {
  border = λ f. odd_permuted (crosses_border f) r.edges edges h;
  piece = λ f p. odd_permuted (crosses p) (edges_on f r.edges) (edges_on f edges) (on_permuted r.edges edges h f);
})

pub touched_permuted : (r : Region) (edges : List Edge) (x : ℕ) → IsPermutation r.edges edges → is_touched
    (record r { edges = edges }) x ≡ is_touched r x
unfolding is_touched
touched_permuted r edges x h =
    sym (list_any-IsPermutation (meets_square (widened r.margin (square_of 0 (i_of x) (j_of x))))
    (edges_on (x / 4 ^ 30) r.edges)
    (edges_on (x / 4 ^ 30) edges) (on_permuted r.edges edges h (x / 4 ^ 30)))

-- ---- edges that are listed twice, and edges of no length
pub xor_self : (b : Bool) → xor b b ≡ false
unfolding xor
xor_self true = refl
xor_self false = refl

pub xor_none : (b : Bool) → xor b false ≡ b
unfolding xor
xor_none true = refl
xor_none false = refl

module _ {A : Type 0} (test : A → Bool) where
  pub odd_both : (xs ys : List A) → is_odd_by test (xs ++ ys) ≡ xor (is_odd_by test xs) (is_odd_by test ys)
  odd_both [] ys = sym (xor_false (is_odd_by test ys))
  odd_both (x ∷ xs) ys = ap (xor (test x)) (odd_both xs ys) ∙ xor_moves (test x) (is_odd_by test xs) (is_odd_by test ys)

  odd_twice : (xs ys : List A) → is_odd_by test (xs ++ (ys ++ ys)) ≡ is_odd_by test xs
  odd_twice xs ys =
      odd_both xs (ys ++ ys)
      ∙ ap (xor (is_odd_by test xs)) (odd_both ys ys ∙ xor_self (is_odd_by test ys))
      ∙ xor_none (is_odd_by test xs)

on_twice : (f : ℕ) (es more : List Edge) → edges_on f (es ++ (more ++ more))
    ≡ edges_on f es ++ (edges_on f more ++ edges_on f more)
on_twice f es more =
    map-append (framed f) es (more ++ more)
    ∙ ap (λ (l : List FramedEdge). edges_on f es ++ l) (map-append (framed f) more more)

pub inside_twice : (r : Region) (more : List Edge) (x : ℕ)
    → inside (record r { edges = r.edges ++ (more ++ more) }) x ≡ inside r x
inside_twice r more x = inside_alike r (r.edges ++ (more ++ more)) x (record {
  border = λ f. odd_twice (crosses_border f) r.edges more;
  piece = λ f p.
      ap (is_odd_over p) (on_twice f r.edges more)
      ∙ odd_twice (crosses p) (edges_on f r.edges) (edges_on f more);
})

-- no way is crossed if there is no edge
none_along : (ps : List Piece) → is_odd_along ps [] ≡ false
none_along [] = refl
none_along (p ∷ ps) = xor_false (is_odd_along ps []) ∙ none_along ps

none_below : (n k i j : ℕ) → odd_of false [] n k i j ≡ false
none_below zero k i j = refl
none_below (suc n) k i j =
    ap₂ xor (none_below n (suc k) (i / 2) (j / 2)) (none_along (step_to k i j)) ∙ xor_self false

none_on_top : (f : ℕ) → top_of [] f ≡ false
unfolding top_of
none_on_top zero = refl
none_on_top (suc f) = ap (λ (b : Bool). xor b false) (none_on_top f) ∙ xor_self false

none_at : (x : ℕ) → odd_at [] x ≡ false
unfolding odd_at
none_at x =
    ap (λ (t : Bool). odd_of t [] 30 0 (i_of x) (j_of x)) (none_on_top (x / 4 ^ 30)) ∙ none_below 30 0 (i_of x) (j_of x)

none_inside : (r : Region) (x : ℕ) → inside (record r { edges = [] }) x ≡ false
none_inside r x = ap₂ xor (none_at x) (none_at r.outside) ∙ xor_self false

pub lines_inside : (r : Region) (lines : List Edge) (x : ℕ)
    → inside (record r { edges = lines ++ lines }) x ≡ false
lines_inside r lines x = inside_twice (record r { edges = [] }) lines x ∙ none_inside r x

-- the edge begins where it ends
abbrev IsPoint : Edge → Type 0
IsPoint e = e.a ≡ e.b

and_false : (b : Bool) → b && false ≡ false
and_false true = refl
and_false false = refl

beside_itself : (a p q : ℤ) → are_of_crossing a a p q ≡ false
beside_itself a p q =
    ap (λ (b : Bool). b && xor (is_at_least_0 p) (is_at_least_0 q) && beq (is_at_least_0 p) (is_at_least_0 a))
    (xor_self (is_at_least_0 a))

point_crosses : (p : Piece) (e : FramedEdge) → e.a ≡ e.b → crosses p e ≡ false
point_crosses (row v u w) e is =
    ap (λ (b : Bool). not (u == w) && b)
    (ap (λ (a : ℤ). are_of_crossing a (above (along v) e.b) (side (along (min u w)) (along v) e.a e.b)
    (side (along (max u w)) (along v) e.a e.b)) (ap (above (along v)) is)
    ∙ beside_itself (above (along v) e.b) (side (along (min u w)) (along v) e.a e.b)
    (side (along (max u w)) (along v) e.a e.b))
    ∙ and_false (not (u == w))
point_crosses (column u v w) e is =
    ap (λ (b : Bool). not (v == w) && b)
    (ap (λ (a : ℤ). are_of_crossing a (left_of (along u) e.b) (side (along u) (along (min v w)) e.a e.b)
    (side (along u) (along (max v w)) e.a e.b)) (ap (left_of (along u)) is)
    ∙ beside_itself (left_of (along u) e.b) (side (along u) (along (min v w)) e.a e.b)
    (side (along u) (along (max v w)) e.a e.b))
    ∙ and_false (not (v == w))

point_on : (f : ℕ) (p : Piece) (e : Edge) → IsPoint e → crosses p (framed f e) ≡ false
point_on f p e is = point_crosses p (framed f e) (ap (in_frame f) is)

points_over : (f : ℕ) (p : Piece) (es : List Edge) → All IsPoint es → is_odd_over p (edges_on f es) ≡ false
points_over f p [] h = refl
points_over f p (e ∷ es) h =
    ap₂ xor (point_on f p e (All-head IsPoint e es h)) (points_over f p es (All-tail IsPoint e es h)) ∙ xor_self false

points_border : (f : ℕ) (es : List Edge) → All IsPoint es → is_odd_by (crosses_border f) es ≡ false
points_border f [] h = refl
points_border f (e ∷ es) h =
    ap₂ xor
    (ap₂ xor (point_on f (way_out f) e (All-head IsPoint e es h)) (point_on (suc f) (way_in f) e
    (All-head IsPoint e es h)) ∙ xor_self false)
    (points_border f es (All-tail IsPoint e es h))
    ∙ xor_self false

pub points_inside : (r : Region) (x : ℕ) → All (λ e. e.a ≡ e.b) r.edges → inside r x ≡ false
points_inside r x h =
    inside_alike (record r { edges = [] }) r.edges x (record {
      border = λ f. points_border f r.edges h;
      piece = λ f p. points_over f p r.edges h;
    })
    ∙ none_inside r x
