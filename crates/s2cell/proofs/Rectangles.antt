-- Rectangles of leaves.
use Rattle.std.proofs.Common.{◌≡◌, ℕ, ◌/◌, ◌^◌, true, ◌&&◌, ◌==◌, nat_le, ◌↔◌}
use Rattle.std.proofs.lemmas.Bool.{eqb-true, eq-eqb, leb-true, le-leb, and_parts, and_from}
use Rattle.s2cell.specs.Curve.{IsPlaceOf, i_of, j_of}
use Rattle.s2cell.specs.Rectangles.{Rect, IsInRect, rect_set}
use Rattle.s2cell.proofs.Places.{place_is}
use Rattle.s2cell.proofs.Squares.{one_place}

pub in_rect_from : (r : Rect) (n : ℕ) → rect_set r n ≡ true → IsInRect r (n / 4 ^ 30) (i_of n) (j_of n)
unfolding rect_set
in_rect_from r n h =
    let a = and_parts ((n / 4 ^ 30 == r.face) && (nat_le r.i0 (i_of n) && nat_le (i_of n) r.i1))
    (nat_le r.j0 (j_of n) && nat_le (j_of n) r.j1) h in
    let b = and_parts (n / 4 ^ 30 == r.face) (nat_le r.i0 (i_of n) && nat_le (i_of n) r.i1) a.0 in
    let i = and_parts (nat_le r.i0 (i_of n)) (nat_le (i_of n) r.i1) b.1 in
    let j = and_parts (nat_le r.j0 (j_of n)) (nat_le (j_of n) r.j1) a.1 in
    record {
      on = eqb-true (n / 4 ^ 30) r.face b.0;
      along = (leb-true r.i0 (i_of n) i.0, leb-true (i_of n) r.i1 i.1);
      across = (leb-true r.j0 (j_of n) j.0, leb-true (j_of n) r.j1 j.1);
    }

in_rect_to : {r : Rect} (n : ℕ) → IsInRect r (n / 4 ^ 30) (i_of n) (j_of n) → rect_set r n ≡ true
unfolding rect_set
in_rect_to {r} n w =
    and_from ((n / 4 ^ 30 == r.face) && (nat_le r.i0 (i_of n) && nat_le (i_of n) r.i1))
    (nat_le r.j0 (j_of n) && nat_le (j_of n) r.j1)
    (and_from (n / 4 ^ 30 == r.face) (nat_le r.i0 (i_of n) && nat_le (i_of n) r.i1) (eq-eqb (n / 4 ^ 30) r.face w.on)
    (and_from (nat_le r.i0 (i_of n)) (nat_le (i_of n) r.i1) (le-leb r.i0 (i_of n) w.along.0)
    (le-leb (i_of n) r.i1 w.along.1)))
    (and_from (nat_le r.j0 (j_of n)) (nat_le (j_of n) r.j1) (le-leb r.j0 (j_of n) w.across.0)
    (le-leb (j_of n) r.j1 w.across.1))

-- a leaf is in the rectangle exactly if its place is
pub in_rect : (r : Rect) (n f i j : ℕ) → IsPlaceOf n f i j → (rect_set r n ≡ true) ↔ IsInRect r f i j
in_rect r n f i j p =
    let same = one_place n f i j (n / 4 ^ 30) (i_of n) (j_of n) p (place_is n) in
    (λ h. rw (same.0, same.1, same.2) (in_rect_from r n h), λ w. in_rect_to n (rw (same.0, same.1, same.2) at w))
