-- The edges that are left for a cell touch some leaf of it, and those that are not touch none.
use Rattle.std.proofs.Common.{◌≡◌, refl, sym, ap, ◌∙◌, ℕ, zero, suc, ◌/◌, ◌^◌, arith, Bool}
use Rattle.std.proofs.Common.{true, false, ◌||◌, List, [], ◌∷◌, filter, cond, length, div-one, pow-suc}
use Rattle.std.proofs.Math.Nat.{div-div-eq-div-mul}
use Rattle.std.proofs.Math.Bool.{true≢false}
use Rattle.std.specs.List.{list_any}
use Rattle.s2polygon.proofs.Halves.{quarter_met}
use Rattle.s2polygon.proofs.Tests.{near_decides, meets_parent}
use Rattle.s2polygon.specs.Cells.{square_of, widened}
use Rattle.s2polygon.specs.Tests.{meets_square}
use Rattle.s2polygon.specs.declared.frames.FramedEdge.{FramedEdge}

halved : (k x : ℕ) → x / 2 ^ k / 2 ≡ x / 2 ^ suc k
halved k x = div-div-eq-div-mul x (2 ^ k) 2 ∙ ap (λ (t : ℕ). x / t) (sym (pow-suc 2 k))

-- what meets a leaf meets each cell around it
pub meets_around : (m k x y : ℕ) (e : FramedEdge) → meets_square (widened m (square_of 0 x y)) e ≡ true
    → meets_square (widened m (square_of k (x / 2 ^ k) (y / 2 ^ k))) e ≡ true
meets_around m zero x y e h =
    let p : x / 2 ^ 0 ≡ x = div-one x in
    let q : y / 2 ^ 0 ≡ y = div-one y in
    rw (p, q) h
meets_around m (suc k) x y e h =
    let p = sym (halved k x) in
    let q = sym (halved k y) in
    rw (p, q) (meets_parent m k (x / 2 ^ k) (y / 2 ^ k) e (meets_around m k x y e h))

-- a leaf of a cell that an edge meets
pub record TouchedLeaf (m k i j : ℕ) (e : FramedEdge) : Type 0 where
  pub x : ℕ
  pub y : ℕ
  pub column : x / 2 ^ k ≡ i
  pub row : y / 2 ^ k ≡ j
  pub meets : meets_square (widened m (square_of 0 x y)) e ≡ true

pub leaf_touched : (m k i j : ℕ) (e : FramedEdge) → meets_square (widened m (square_of k i j)) e ≡ true
    → TouchedLeaf m k i j e
leaf_touched m zero i j e h = record { x = i; y = j; column = div-one i; row = div-one j; meets = h }
leaf_touched m (suc k) i j e h =
    let q = quarter_met m k i j e.a e.b ((near_decides m (suc k) i j e).0 h) in
    let l = leaf_touched m k q.x q.y e ((near_decides m k q.x q.y e).1 q.meets) in
    record {
      x = l.x;
      y = l.y;
      column = sym (halved k l.x) ∙ ap (λ (t : ℕ). t / 2) l.column ∙ q.column;
      row = sym (halved k l.y) ∙ ap (λ (t : ℕ). t / 2) l.row ∙ q.row;
      meets = l.meets;
    }

-- ---- lists
module _ (near far : FramedEdge → Bool) (nearer : (e : FramedEdge) → near e ≡ true → far e ≡ true) where
  one_none : (e : FramedEdge) (kept : List FramedEdge) (s t : Bool) → near e ≡ s → far e ≡ t → cond t (e ∷ kept) kept
      ≡ [] → near e ≡ false
  one_none e kept s true is it none = let l = ap length none in absurd (omega arith)
  one_none e kept false false is it none = is
  one_none e kept true false is it none = absurd (true≢false (sym (nearer e is) ∙ it))

  rest_none : (e : FramedEdge) (kept : List FramedEdge) (t : Bool) → cond t (e ∷ kept) kept ≡ [] → kept ≡ []
  rest_none e kept true none = let l = ap length none in absurd (omega arith)
  rest_none e kept false none = none

  either_false : (a b : Bool) → a ≡ false → b ≡ false → a || b ≡ false
  either_false a b h k = rw (h, k) refl

  pub none_near : (es : List FramedEdge) → filter far es ≡ [] → list_any near es ≡ false
  none_near [] none = refl
  none_near (e ∷ es) none =
      either_false (near e) (list_any near es)
      (one_none e (filter far es) (near e) (far e) refl refl none)
      (none_near es (rest_none e (filter far es) (far e) none))

-- an edge that a test keeps
pub record Kept (far : FramedEdge → Bool) (es : List FramedEdge) : Type 0 where
  pub edge : FramedEdge
  pub far_is : far edge ≡ true
  pub any : (near : FramedEdge → Bool) → near edge ≡ true → list_any near es ≡ true

pub or_left : (a b : Bool) → a ≡ true → a || b ≡ true
or_left a b h = rw h refl

pub or_right : (a b : Bool) → b ≡ true → a || b ≡ true
or_right true b h = refl
or_right false b h = h

first_kept : (far : FramedEdge → Bool) (e : FramedEdge) (es : List FramedEdge) (t : Bool) → far e ≡ t
    → (¬ (filter far es ≡ []) → Kept far es) → ¬ (cond t (e ∷ filter far es) (filter far es) ≡ []) → Kept far (e ∷ es)
first_kept far e es true is rest some = record {
  edge = e;
  far_is = is;
  any = λ near h. or_left (near e) (list_any near es) h;
}
first_kept far e es false is rest some =
    let k = rest some in
    record {
      edge = k.edge;
      far_is = k.far_is;
      any = λ near h. or_right (near e) (list_any near es) (k.any near h);
    }

pub some_kept : (far : FramedEdge → Bool) (es : List FramedEdge) → ¬ (filter far es ≡ []) → Kept far es
some_kept far [] some = absurd (some refl)
some_kept far (e ∷ es) some = first_kept far e es (far e) refl (some_kept far es) some
