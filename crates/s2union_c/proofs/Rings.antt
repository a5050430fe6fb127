-- Corners and rings that make no polygon, and those that do.
use Rattle.std.proofs.Common.{◌≡◌, ap, ◌∙◌, ℕ, ℤ, suc, ◌+◌, ◌<◌, inl, inr, arith, subst, sym, List, [], ◌∷◌}
use Rattle.std.proofs.Common.{◌++◌, All, length, map, take, get_or}
use Rattle.std.proofs.Math.Seq.{take-suc}
use Rattle.std.proofs.lemmas.List.{get_or-map, length-map, map-append}
use Rattle.std.proofs.lemmas.List.Elements.{All-append, All-cons, All-nil}
use Rattle.s2polygon.specs.Directions.{IsDirection, origin}
use Rattle.s2polygon.specs.Rings.{corner, start_of}
use Rattle.s2union_c.specs.Polygons.{AreGiven, IsWrongCorner, IsWrongRing, RefusesRings, point_of, points_of}
use Rattle.s2union_c.specs.Results.{Refused}
use Rattle.s2union_c.specs.Status.{no_memory}
use Rattle.s2union_c.specs.declared.polygons.Direction.{Direction}

-- the corner at a place is what a read there gives
pub corner_read : (corners : List Direction) (k : ℕ) (d : Direction) → k < length corners
    → corner (points_of corners) k ≡ point_of (get_or corners k d)
corner_read corners k d h = get_or-map point_of corners k d origin h

-- one point more
pub points_next : (corners : List Direction) (k : ℕ) (d : Direction) → k < length corners
    → points_of (take (k + 1) corners) ≡ points_of (take k corners) ++ (point_of (get_or corners k d) ∷ [])
points_next corners k d h =
    let one : k + 1 ≡ suc k = omega arith in
    let more = map-append point_of (take k corners) (get_or corners k d ∷ []) in
    ap (λ n. points_of (take n corners)) one ∙ ap (map point_of) (take-suc corners k d h) ∙ more

pub directions_next : (corners : List Direction) (k : ℕ) (d : Direction) → k < length corners
    → All IsDirection (points_of (take k corners)) → IsDirection (point_of (get_or corners k d))
    → All IsDirection (points_of (take (k + 1) corners))
directions_next corners k d h all one =
    let point = point_of (get_or corners k d) in
    subst (All IsDirection) (sym (points_next corners k d h)) (All-append IsDirection (points_of (take k corners))
    (point ∷ []) all (All-cons IsDirection point [] one (All-nil IsDirection)))

wrong_corner : (corners : List Direction) (ends : List ℕ) (k : ℕ) → IsWrongCorner corners ends k
    → ¬ (AreGiven corners ends)
wrong_corner corners ends k (inl (h, none)) given =
    let same = length-map corners point_of in
    none (given.directions k origin (omega arith))
wrong_corner corners ends k (inr (r, at)) given = (given.rings.rings r at.ring).edges k at.first at.last at.opposite

wrong_ring : (corners : List Direction) (ends : List ℕ) (r : ℕ) → IsWrongRing corners ends r → ¬ (AreGiven corners ends)
wrong_ring corners ends r (inl (none, first)) given =
    let some = given.rings.some in
    let is = ap length none in
    absurd (omega arith)
wrong_ring corners ends r (inr (h, inr few)) given =
    let begins = (given.rings.rings r h).begins in
    absurd (omega arith)
wrong_ring corners ends r (inr (h, inl (inl before))) given =
    let begins = (given.rings.rings r h).begins in
    absurd (omega arith)
wrong_ring corners ends r (inr (h, inl (inr (inl beyond)))) given =
    let within = (given.rings.rings r h).ends_within in
    absurd (omega arith)
wrong_ring corners ends r (inr (h, inl (inr (inr (last, left))))) given =
    let whole = given.rings.whole in
    let is : length ends ≡ suc r = omega arith in
    let next : start_of ends (length ends) ≡ get_or ends r 0 = ap (start_of ends) is in
    absurd (omega arith)

-- rings that are right are refused for memory alone
pub given_memory : {status : ℤ} {new : List ℕ} {len : ℕ} (corners : List Direction) (ends old : List ℕ)
    → RefusesRings corners ends status old new len → AreGiven corners ends → Refused status no_memory old new len
given_memory {len = len} corners ends old (inl (is, wrong, same)) given =
    absurd (wrong_corner corners ends len wrong given)
given_memory {len = len} corners ends old (inr (inl (is, wrong, same))) given =
    absurd (wrong_ring corners ends len wrong given)
given_memory corners ends old (inr (inr memory)) given = memory
