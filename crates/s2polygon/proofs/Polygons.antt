-- The parities of leaves, and what a polygon carries.
use Rattle.std.proofs.Common.{◌≡◌, refl, sym, ap, ◌∙◌, IfOk, Result, Ok, Err, ℕ, zero, suc, ◌/◌, ◌^◌, ◌<◌, ◌≤◌}
use Rattle.std.proofs.Common.{arith, Bool, List, All, subst}
use Rattle.std.proofs.lemmas.List.Elements.{All-filter}
use Rattle.s2cell.specs.Curve.{IsPlaceOf, i_of, j_of}
use Rattle.s2cell.proofs.Places.{place_is}
use Rattle.s2cell.proofs.Squares.{one_place}
use Rattle.s2polygon.proofs.Framing.{all_framed}
use Rattle.s2polygon.proofs.Insides.{inside_is}
use Rattle.s2polygon.specs.Cells.{odd_of, square_of, widened}
use Rattle.s2polygon.specs.Faces.{edges_on, top_of}
use Rattle.s2polygon.specs.Leaves.{Region, inside, odd_at}
use Rattle.s2polygon.specs.Tests.{meets_square}
use Rattle.s2polygon.specs.Descents.{near_face, top_in}
use Rattle.s2polygon.specs.Working.Known.{AreLists, IsPolygon, answer_at, answers_of, exchanged_by}
use Rattle.s2polygon.specs.Working.Known.{parities_of}
use Rattle.s2polygon.specs.Working.Sizes.{IsFramed}
use Rattle.s2polygon.specs.declared.directions.Edge.{Edge}
use Rattle.s2polygon.specs.declared.faces.Tops.{Tops}
use Rattle.s2polygon.specs.declared.frames.FramedEdge.{FramedEdge}
use Rattle.s2polygon.specs.declared.lists.Lists.{Lists}

pub answer_is : (test : ℕ → Bool) (f : ℕ) → f < 6 → answer_at (answers_of test) f ≡ test f
answer_is test zero h = refl
answer_is test (suc zero) h = refl
answer_is test (suc (suc zero)) h = refl
answer_is test (suc (suc (suc zero))) h = refl
answer_is test (suc (suc (suc (suc zero)))) h = refl
answer_is test (suc (suc (suc (suc (suc zero))))) h = refl
answer_is test (suc (suc (suc (suc (suc (suc f)))))) h = absurd (omega arith)

-- the parity of a leaf, from that of the place where it lies
module _ (n face i j : ℕ) (p : IsPlaceOf n face i j) where
  at_place : (top : ℕ → Bool) (edges : ℕ → List FramedEdge)
      → odd_of (top face) (edges face) 30 0 i j ≡ odd_of (top (n / 4 ^ 30)) (edges (n / 4 ^ 30)) 30 0 (i_of n) (j_of n)
  at_place top edges =
      let same = one_place n face i j (n / 4 ^ 30) (i_of n) (j_of n) p (place_is n) in
      rw (same.0, same.1, same.2) refl

  pub leaf_parity : (es : List Edge) (top odd : Bool) → top ≡ top_of es face → odd ≡ odd_of top
      (edges_on face es) 30 0 i j → odd ≡ odd_at es n
  unfolding odd_at
  leaf_parity es top odd e f =
      f ∙ ap (λ (t : Bool). odd_of t (edges_on face es) 30 0 i j) e
      ∙ at_place (top_of es) (λ (g : ℕ). edges_on g es)

  pub held_is : (r : Region) (top odd : Bool) → top ≡ top_in r face → odd ≡ odd_of top
      (edges_on face r.edges) 30 0 i j → odd ≡ inside r n
  held_is r top odd e f =
      f ∙ ap (λ (t : Bool). odd_of t (edges_on face r.edges) 30 0 i j) e
      ∙ at_place (top_in r) (λ (g : ℕ). edges_on g r.edges)
      ∙ sym (inside_is r n)

-- the same of what code has at hand
pub if_ok : {A E : Type 0} {P Q : A → Type 0} (r : Result A E) → ((x : A) → P x → Q x) → IfOk r P → IfOk r Q
if_ok (Ok x) f p = f x p
if_ok (Err e) f p = tt

pub ok_both : {A E : Type 0} {P Q R : A → Type 0} (r : Result A E) → ((x : A) → P x → Q x → R x) → IfOk r P → IfOk r Q
    → IfOk r R
ok_both (Ok x) f p q = f x p q
ok_both (Err e) f p q = tt

-- which lists a polygon has
pub all_lists : (es : List Edge) (margin : ℕ) (l : Lists) → l.zero.items ≡ near_face margin (edges_on 0 es)
    → l.one.items ≡ near_face margin (edges_on 1 es) → l.two.items ≡ near_face margin (edges_on 2 es)
    → l.three.items ≡ near_face margin (edges_on 3 es) → l.four.items ≡ near_face margin (edges_on 4 es)
    → l.five.items ≡ near_face margin (edges_on 5 es) → AreLists es margin l
all_lists es margin l a b c d e f zero h = a
all_lists es margin l a b c d e f (suc zero) h = b
all_lists es margin l a b c d e f (suc (suc zero)) h = c
all_lists es margin l a b c d e f (suc (suc (suc zero))) h = d
all_lists es margin l a b c d e f (suc (suc (suc (suc zero)))) h = e
all_lists es margin l a b c d e f (suc (suc (suc (suc (suc zero))))) h = f
all_lists es margin l a b c d e f (suc (suc (suc (suc (suc (suc g)))))) h = absurd (omega arith)

pub list_met_framed : (margin f : ℕ) (es : List Edge) (l : List FramedEdge) → l ≡ near_face margin (edges_on f es)
    → All IsFramed l
list_met_framed margin f es l e =
    subst (λ (l : List FramedEdge). All IsFramed l) (sym e)
    (All-filter (meets_square (widened margin (square_of 30 0 0))) IsFramed (edges_on f es) (all_framed f es))

pub polygon_right : (es : List Edge) (outside margin : ℕ) (tops shifted : Tops) (odd : Bool) (lists : Lists)
    → tops ≡ parities_of es → odd ≡ odd_at es outside
    → shifted ≡ exchanged_by odd tops → AreLists es margin lists → margin ≤ 2 ^ 60
    → IsPolygon (record { edges = es; outside = outside; margin = margin }) shifted lists
polygon_right es outside margin tops shifted odd lists e f g a h = record {
  answers = g ∙ ap (λ (t : Tops). exchanged_by odd t) e ∙ ap (λ (o : Bool). exchanged_by o (parities_of es)) f;
  listed = a;
  small = h;
}

module _ (n face i j : ℕ) (p : IsPlaceOf n face i j) where
  pub polygon_of : (es given : List Edge) (margin : ℕ) (tops shifted : Tops) (top odd : Bool) (lists : Lists)
      → given ≡ es → tops ≡ parities_of given → top ≡ answer_at tops face
      → odd ≡ odd_of top (edges_on face given) 30 0 i j
      → shifted ≡ exchanged_by odd tops → face < 6 → AreLists given margin lists → margin ≤ 2 ^ 60
      → IsPolygon (record { edges = es; outside = n; margin = margin }) shifted lists
  polygon_of es given margin tops shifted top odd lists e t a o s l h m =
      let own = t ∙ ap parities_of e in
      polygon_right es n margin tops shifted odd lists own
      (leaf_parity n face i j p es top odd (a ∙ ap (λ (x : Tops). answer_at x face) own ∙ answer_is (top_of es) face l)
      (o ∙ ap (λ (l : List Edge). odd_of top (edges_on face l) 30 0 i j) e)) s (rw e at h) m
