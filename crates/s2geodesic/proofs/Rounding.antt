-- The margin pays for corners that were rounded.
use Rattle.std.proofs.Common.{◌≡◌, refl, sym, subst, ℕ, ◌≤◌, ◌<◌, ◌^◌, arith, false, true, All, List, length}
use Rattle.std.proofs.lemmas.List.Elements.{All-weaker}
use Rattle.s2cell.specs.Cell.{level_of}
use Rattle.s2cell.specs.declared.TheConstants.{LEAVES}
use Rattle.s2geodesic.specs.Halves.{LiesOpposite}
use Rattle.s2geodesic.specs.Rounded.{AreTrue, IsPolygonOf, IsShort, touch, true_polygon}
use Rattle.s2geodesic.specs.declared.edges.TheConstants.{HEIGHT}
use Rattle.s2geodesic.specs.declared.polygon.TheConstants.{MARGIN}
use Rattle.s2polygon.specs.Directions.{Point}
use Rattle.s2polygon.specs.Leaves.{Region, inner_leaf, is_touched, outer_leaf}
use Rattle.s2polygon.specs.Moves.{AreMoved, AreNearRings, AreOffMiddles, StaysClear, of_rings, paid_for}
use Rattle.s2polygon.specs.Rings.{AreRings, FaultMeans, HasDirections, rings_edges}
use Rattle.s2polygon.specs.declared.fault.PolygonFault.{PolygonFault}
use Rattle.s2polygon.specs.declared.fault.PolygonFault.TheVariants.{Antipodal, MarginTooLarge, Memory, NoRing}
use Rattle.s2polygon.specs.declared.fault.PolygonFault.TheVariants.{NotALeaf, TooFewCorners, WrongEnd}

pub made_polygon : (corners : List Point) (ends : List ℕ) (r : Region) (leaf : ℕ)
    → r ≡ record { edges = rings_edges corners ends (length ends); outside = leaf; margin = MARGIN } → leaf < LEAVES
    → AreRings corners ends → LiesOpposite corners leaf → All IsShort (rings_edges corners ends (length ends))
    → IsPolygonOf corners ends r
made_polygon corners ends r leaf made below rings opposite short =
    subst (IsPolygonOf corners ends) (sym made) (record {
      leaf = below;
      rings = rings;
      edges = refl;
      short = short;
      outside = opposite;
      margin = refl;
    })

pub small_margin : (r : Region) → r.margin ≡ MARGIN → r.margin ≤ 2 ^ 60
small_margin r e = rw e (omega arith)

-- the law of corners that are moved
abbrev pub PaysForMoved : Type 0
PaysForMoved =
    (num den height : ℕ) (r : Region) (corners moved : List Point) (ends : List ℕ) (x : ℕ)
    → AreNearRings num den height r.margin corners moved ends → is_touched (of_rings r moved ends) x ≡ true
    → is_touched (paid_for num den height (of_rings r corners ends)) x ≡ true

module _ (corners : List Point) (ends : List ℕ) (r : Region) (h : IsPolygonOf corners ends r) where
  abbrev bare : Region
  bare = record { edges = r.edges; outside = r.outside; margin = 0 }

  paid : paid_for 502 1000 HEIGHT (of_rings bare corners ends) ≡ r
  paid = by r h.edges h.margin
    where
      by : (s : Region) → s.edges ≡ rings_edges corners ends (length ends) → s.margin ≡ MARGIN
          → ◌≡◌ {A = Region} (record {
            edges = rings_edges corners ends (length ends);
            outside = s.outside;
            margin = MARGIN;
          }) s
      by s e m = rw (sym e, sym m) refl

  near : (moved : List Point) → AreMoved 502 1000 corners moved → AreNearRings 502 1000 HEIGHT 0 corners moved ends
  near moved m = record {
    near = m;
    clear = subst (All (StaysClear HEIGHT)) h.edges
        (All-weaker IsShort (StaysClear HEIGHT) (λ e short. short.1) r.edges h.short);
    less = omega arith;
    most = omega arith;
  }

  pub rounded : PaysForMoved → (moved : List Point) (x : ℕ) → AreMoved 502 1000 corners moved
      → touch moved ends x ≡ true
      → is_touched r x ≡ true
  unfolding is_touched
  rounded law moved x m is =
      subst (λ (s : Region). is_touched s x ≡ true) paid
      (law 502 1000 HEIGHT bare corners moved ends x (near moved m) is)

-- the laws of insides
abbrev pub KeepsOuter : Type 0
KeepsOuter =
    (num den height : ℕ) (r : Region) (corners moved : List Point) (ends : List ℕ) (x : ℕ)
    → AreNearRings num den height r.margin corners moved ends → AreOffMiddles corners moved ends
    → x < LEAVES → r.outside < LEAVES
    → is_touched (paid_for num den height (of_rings r corners ends)) r.outside ≡ false
    → outer_leaf (of_rings r moved ends) x ≡ true
    → outer_leaf (paid_for num den height (of_rings r corners ends)) x ≡ true

abbrev pub KeepsInner : Type 0
KeepsInner =
    (num den height : ℕ) (r : Region) (corners moved : List Point) (ends : List ℕ) (x : ℕ)
    → AreNearRings num den height r.margin corners moved ends → AreOffMiddles corners moved ends
    → x < LEAVES → r.outside < LEAVES
    → is_touched (paid_for num den height (of_rings r corners ends)) r.outside ≡ false
    → inner_leaf (paid_for num den height (of_rings r corners ends)) x ≡ true
    → inner_leaf (of_rings r moved ends) x ≡ true

module _ (corners : List Point) (ends : List ℕ) (r : Region) (h : IsPolygonOf corners ends r)
    (out : is_touched r r.outside ≡ false) where
  off : (moved : List Point) → AreTrue corners moved → AreOffMiddles corners moved ends
  off moved t = record {
    rings = h.rings;
    directions = subst (All HasDirections) h.edges
        (All-weaker IsShort HasDirections (λ e short. short.0) r.edges h.short);
    off = t.off;
  }

  away : is_touched (paid_for 502 1000 HEIGHT (of_rings (bare corners ends r h) corners ends)) r.outside ≡ false
  away = subst (λ (s : Region). is_touched s r.outside ≡ false) (sym (paid corners ends r h)) out

  pub outer_kept : KeepsOuter → (moved : List Point) (x : ℕ) → AreTrue corners moved → x < LEAVES
      → outer_leaf (true_polygon r moved ends) x ≡ true → outer_leaf r x ≡ true
  outer_kept law moved x t l is =
      subst (λ (s : Region). outer_leaf s x ≡ true) (paid corners ends r h)
      (law 502 1000 HEIGHT (bare corners ends r h) corners moved ends x (near corners ends r h moved t.near)
      (off moved t) l h.leaf away is)

  pub inner_kept : KeepsInner → (moved : List Point) (x : ℕ) → AreTrue corners moved → x < LEAVES
      → inner_leaf r x ≡ true → inner_leaf (true_polygon r moved ends) x ≡ true
  inner_kept law moved x t l is =
      law 502 1000 HEIGHT (bare corners ends r h) corners moved ends x (near corners ends r h moved t.near)
      (off moved t) l h.leaf away
      (subst (λ (s : Region). inner_leaf s x ≡ true) (sym (paid corners ends r h)) is)

-- a fault of the rings is none of the leaf outside or the margin
pub rings_alone : (corners : List Point) (ends : List ℕ) (leaf other : ℕ) (fault : PolygonFault) → level_of leaf ≡ 30
    → FaultMeans corners ends leaf MARGIN fault → FaultMeans corners ends other MARGIN fault
rings_alone corners ends leaf other NoRing l h = h
rings_alone corners ends leaf other (WrongEnd k) l h = h
rings_alone corners ends leaf other (TooFewCorners k) l h = h
rings_alone corners ends leaf other (Antipodal i) l h = h
rings_alone corners ends leaf other NotALeaf l h = absurd (h l)
rings_alone corners ends leaf other MarginTooLarge l h = h
rings_alone corners ends leaf other Memory l h = tt
