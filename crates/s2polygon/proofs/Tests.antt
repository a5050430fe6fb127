-- The ten tests as one answer, and lists of what meets a square in a larger one.
use Rattle.std.proofs.Common.{◌≡◌, refl, sym, ap, ◌∙◌, ℕ, suc, ◌*◌, ◌/◌, ◌+◌, ◌^◌, ◌≤◌, ℤ, pos, ◌+ℤ◌, ◌-ℤ◌, ◌<ℤ◌}
use Rattle.std.proofs.Common.{◌≤ℤ◌, inl, arith, Bool, true, false, List, [], ◌∷◌, filter, cond, pow_pos, pow-suc}
use Rattle.std.proofs.Common.{mul-le-mul_right}
use Rattle.std.proofs.lemmas.Int.{ints}
use Rattle.std.proofs.Math.Bool.{true≢false}
use Rattle.std.specs.Prelude.{int_lt, not, ◌&&◌}
use Rattle.std.specs.Bool.{Decides}
use Rattle.std.proofs.lemmas.Bool.Decides.{Decides-and, Decides-or, Decides-not, Decides-like, not_from_Decides}
use Rattle.s2polygon.specs.Cells.{square_of, widened}
use Rattle.s2polygon.specs.Crosses.{side}
use Rattle.s2polygon.specs.Frames.{normal_u_of, normal_v_of}
use Rattle.s2polygon.specs.Meets.{MeetsSquare}
use Rattle.s2polygon.specs.Tests.{rights, lefts, aboves, belows, is_behind, is_apart, meets_square}
use Rattle.s2polygon.specs.Working.Apart.{AreBehind, AreApart}
use Rattle.s2polygon.specs.Working.Holding.{Holds, LeavesOutWhatMisses}
use Rattle.s2polygon.proofs.Rejects.{rights_behind, lefts_behind, aboves_behind, belows_behind, rights_aboves_apart}
use Rattle.s2polygon.proofs.Rejects.{belows_rights_apart, aboves_lefts_apart, lefts_belows_apart}
use Rattle.s2polygon.proofs.Rejects.{lefts_rights_apart, aboves_belows_apart}
use Rattle.s2polygon.proofs.Accepts.{meets_unless_rejected}
use Rattle.s2polygon.proofs.Larger.{meets_larger}
use Rattle.s2polygon.proofs.Along.{along_rises, along_follows}
use Rattle.s2polygon.specs.declared.frames.FramedEdge.{FramedEdge}
use Rattle.s2polygon.specs.declared.meeting.Pair.{Pair}
use Rattle.s2polygon.specs.declared.places.Square.{Square}

less_decides : (x y : ℤ) → Decides (int_lt x y) (x <ℤ y)
less_decides x y = (λ e. omega (arith, ints), λ h. by h (int_lt x y) refl)
  where
    by : x <ℤ y → (t : Bool) → int_lt x y ≡ t → int_lt x y ≡ true
    by h true e = e
    by h false e = absurd (omega (arith, ints))

both : {P Q : Type 0} {x y : Bool} → Decides x P → Decides y Q → Decides (x && y) (P × Q)
both {P} {Q} {x} {y} d k = Decides-and x y d k

three : {P Q R : Type 0} {x y z : Bool} → Decides x P → Decides y Q → Decides z R → Decides (x && (y && z)) (P × Q × R)
three {P} {Q} {R} {x} {y} {z} d k l = Decides-like (x && (y && z)) (λ h. (h.0, h.1.0, h.1.1))
    (λ h. (h.0, (h.1, h.2))) (both d (both k l))

behind_decides : (p : Pair) → Decides (is_behind p) (AreBehind p)
behind_decides p = both (less_decides p.at_a (pos 0)) (less_decides p.at_b (pos 0))

apart_decides : (p q : Pair) (turn : ℤ) → Decides (is_apart p q turn) (AreApart p q turn)
apart_decides p q turn =
    Decides-or _ _
    (three (less_decides p.at_a (pos 0)) (less_decides q.at_b (pos 0)) (less_decides (pos 0) turn))
    (three (less_decides q.at_a (pos 0)) (less_decides p.at_b (pos 0)) (less_decides turn (pos 0)))

ahead : (p : Pair) → Decides (not (is_behind p)) (¬ (AreBehind p))
ahead p = Decides-not (is_behind p) (behind_decides p)

close : (p q : Pair) (turn : ℤ) → Decides (not (is_apart p q turn)) (¬ (AreApart p q turn))
close p q turn = Decides-not (is_apart p q turn) (apart_decides p q turn)

pub meets_decides : (q : Square) (e : FramedEdge) → q.u0 <ℤ q.u1 → q.v0 <ℤ q.v1 → Decides (meets_square q e)
    (MeetsSquare e.a e.b q)
meets_decides q e wide high =
    Decides-like (meets_square q e)
    (λ h. meets_unless_rejected e.a e.b q wide high (record {
      rights_ahead = h.0;
      lefts_ahead = h.1.0;
      aboves_ahead = h.1.1.0;
      belows_ahead = h.1.1.1.0;
      right_above = h.1.1.1.1.0;
      right_below = h.1.1.1.1.1.0;
      left_above = h.1.1.1.1.1.1.0;
      left_below = h.1.1.1.1.1.1.1.0;
      columns = h.1.1.1.1.1.1.1.1.0;
      rows = h.1.1.1.1.1.1.1.1.1;
    }))
    (λ m. (
      λ b. rights_behind e.a e.b q b m,
      (
        λ b. lefts_behind e.a e.b q b m,
        (
          λ b. aboves_behind e.a e.b q b m,
          (
            λ b. belows_behind e.a e.b q b m,
            (
              λ b. rights_aboves_apart e.a e.b q b m,
              (
                λ b. belows_rights_apart e.a e.b q b m,
                (
                  λ b. aboves_lefts_apart e.a e.b q b m,
                  (
                    λ b. lefts_belows_apart e.a e.b q b m,
                    (
                      λ b. lefts_rights_apart e.a e.b q wide b m,
                      λ b. aboves_belows_apart e.a e.b q high b m,
                    ),
                  ),
                ),
              ),
            ),
          ),
        ),
      ),
    ))
    (both (ahead (rights q e.a e.b)) (both (ahead (lefts q e.a e.b))
    (both (ahead (aboves q e.a e.b)) (both (ahead (belows q e.a e.b))
    (both (close (rights q e.a e.b) (aboves q e.a e.b) (side q.u0 q.v0 e.a e.b))
    (both (close (belows q e.a e.b) (rights q e.a e.b) (side q.u0 q.v1 e.a e.b))
    (both (close (aboves q e.a e.b) (lefts q e.a e.b) (side q.u1 q.v0 e.a e.b))
    (both (close (lefts q e.a e.b) (belows q e.a e.b) (side q.u1 q.v1 e.a e.b))
    (both (close (lefts q e.a e.b) (rights q e.a e.b) (normal_v_of e.a e.b))
    (close (aboves q e.a e.b) (belows q e.a e.b) (normal_u_of e.a e.b)))))))))))

-- ---- cells
pub square_wide : (k i j : ℕ) → (square_of k i j).u0 <ℤ (square_of k i j).u1
square_wide k i j = let p = pow_pos k in along_rises (2 * (i * 2 ^ k)) (2 * (i * 2 ^ k + 2 ^ k)) (omega arith)

pub square_high : (k i j : ℕ) → (square_of k i j).v0 <ℤ (square_of k i j).v1
square_high k i j = let p = pow_pos k in along_rises (2 * (j * 2 ^ k)) (2 * (j * 2 ^ k + 2 ^ k)) (omega arith)

halves : (p i : ℕ) → (i / 2 * (p * 2) ≤ i * p) × (i * p + p ≤ i / 2 * (p * 2) + p * 2)
halves p i =
    let a : i / 2 * 2 ≤ i = omega arith in
    let b : i + 1 ≤ i / 2 * 2 + 2 = omega arith in
    (omega (arith, mul-le-mul_right p a), omega (arith, mul-le-mul_right p b))

pub parent_holds : (k i j : ℕ) → Holds (square_of (suc k) (i / 2) (j / 2)) (square_of k i j)
parent_holds k i j =
    let a = halves (2 ^ k) i in
    let b = halves (2 ^ k) j in
    rw (pow-suc 2 k) (record {
      first_column = along_follows (2 * (i / 2 * (2 ^ k * 2))) (2 * (i * 2 ^ k)) (omega (arith, a.0));
      last_column = along_follows (2 * (i * 2 ^ k + 2 ^ k)) (2 * (i / 2 * (2 ^ k * 2) + 2 ^ k * 2))
          (omega (arith, a.1));
      first_row = along_follows (2 * (j / 2 * (2 ^ k * 2))) (2 * (j * 2 ^ k)) (omega (arith, b.0));
      last_row = along_follows (2 * (j * 2 ^ k + 2 ^ k)) (2 * (j / 2 * (2 ^ k * 2) + 2 ^ k * 2)) (omega (arith, b.1));
    })

widened_holds : (m : ℕ) (larger q : Square) → Holds larger q → Holds (widened m larger) (widened m q)
widened_holds m larger q h = record {
  first_column = further (larger.u0) (q.u0) h.first_column;
  last_column = nearer (q.u1) (larger.u1) h.last_column;
  first_row = further (larger.v0) (q.v0) h.first_row;
  last_row = nearer (q.v1) (larger.v1) h.last_row;
}
  where
    further : (a b : ℤ) → a ≤ℤ b → (a -ℤ pos m) ≤ℤ (b -ℤ pos m)
    further a b l = omega (arith, ints)

    nearer : (a b : ℤ) → a ≤ℤ b → (a +ℤ pos m) ≤ℤ (b +ℤ pos m)
    nearer a b l = omega (arith, ints)

pub holds_own : (m : ℕ) (q : Square) → Holds (widened m q) q
holds_own m q = record {
  first_column = further q.u0;
  last_column = nearer q.u1;
  first_row = further q.v0;
  last_row = nearer q.v1;
}
  where
    further : (a : ℤ) → (a -ℤ pos m) ≤ℤ a
    further a = omega (arith, ints)

    nearer : (a : ℤ) → a ≤ℤ (a +ℤ pos m)
    nearer a = omega (arith, ints)

wider : (a b : ℤ) (m : ℕ) → a <ℤ b → (a -ℤ pos m) <ℤ (b +ℤ pos m)
wider a b m h = omega (arith, ints)

pub widened_wide : (m k i j : ℕ) → (widened m (square_of k i j)).u0 <ℤ (widened m (square_of k i j)).u1
widened_wide m k i j = wider (square_of k i j).u0 (square_of k i j).u1 m (square_wide k i j)

pub widened_high : (m k i j : ℕ) → (widened m (square_of k i j)).v0 <ℤ (widened m (square_of k i j)).v1
widened_high m k i j = wider (square_of k i j).v0 (square_of k i j).v1 m (square_high k i j)

-- the answer says whether the edge meets the square of a cell, widened by a margin
pub near_decides : (m k i j : ℕ) (e : FramedEdge)
    → Decides (meets_square (widened m (square_of k i j)) e) (MeetsSquare e.a e.b (widened m (square_of k i j)))
near_decides m k i j e = meets_decides (widened m (square_of k i j)) e (widened_wide m k i j) (widened_high m k i j)

-- an edge that the test with a margin leaves out misses the square itself
pub leaves_out_near : (m k i j : ℕ) → LeavesOutWhatMisses (meets_square (widened m (square_of k i j))) (square_of k i j)
leaves_out_near m k i j e n meets =
    not_from_Decides (meets_square (widened m (square_of k i j)) e) (near_decides m k i j e) n
    (meets_larger e.a e.b (square_of k i j) (widened m (square_of k i j)) (inl (square_wide k i j))
    (holds_own m (square_of k i j)) meets)

pub meets_parent : (m k i j : ℕ) (e : FramedEdge) → meets_square (widened m (square_of k i j)) e ≡ true
    → meets_square (widened m (square_of (suc k) (i / 2) (j / 2))) e ≡ true
meets_parent m k i j e h =
    (near_decides m (suc k) (i / 2) (j / 2) e).1
    (meets_larger e.a e.b (widened m (square_of k i j)) (widened m (square_of (suc k) (i / 2) (j / 2)))
    (inl (widened_wide m k i j))
    (widened_holds m (square_of (suc k) (i / 2) (j / 2)) (square_of k i j) (parent_holds k i j))
    ((near_decides m k i j e).0 h))

module _ (p q : FramedEdge → Bool) (narrower : (e : FramedEdge) → p e ≡ true → q e ≡ true) where
  one_nested : (e : FramedEdge) (es : List FramedEdge) (s t : Bool) → p e ≡ s → q e ≡ t → filter p (filter q es)
      ≡ filter p es
      → filter p (cond t (e ∷ filter q es) (filter q es)) ≡ cond s (e ∷ filter p es) (filter p es)
  one_nested e es s true is it same = ap (λ (c : Bool). cond c (e ∷ filter p (filter q es)) (filter p (filter q es))) is
      ∙ ap (λ (l : List FramedEdge). cond s (e ∷ l) l) same
  one_nested e es false false is it same = same
  one_nested e es true false is it same = absurd (true≢false (sym (narrower e is) ∙ it))

  pub nested : (es : List FramedEdge) → filter p (filter q es) ≡ filter p es
  nested [] = refl
  nested (e ∷ es) = one_nested e es (p e) (q e) refl refl (nested es)

pub child_list : (m k i j : ℕ) (es : List FramedEdge)
    → filter (meets_square (widened m (square_of k i j))) (filter
    (meets_square (widened m (square_of (suc k) (i / 2) (j / 2)))) es)
    ≡ filter (meets_square (widened m (square_of k i j))) es
child_list m k i j es =
    nested (meets_square (widened m (square_of k i j))) (meets_square (widened m (square_of (suc k) (i / 2) (j / 2))))
    (meets_parent m k i j) es
