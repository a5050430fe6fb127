-- The polygons of a shape, part by part, and the leaves of their coverings.
use Rattle.std.proofs.Common.{◌≡◌, refl, sym, ap, ap₂, ◌∙◌, subst, ℕ, suc, ◌+◌, ◌-◌, ◌<◌, ◌==◌, arith, append-nil}
use Rattle.std.proofs.Common.{eqb-true}
use Rattle.std.proofs.Common.{inr, Bool, cond, true, false, ◌||◌, List, [], ◌∷◌, ◌++◌, get_or, length, take}
use Rattle.std.proofs.lemmas.Bool.{eqb-false}
use Rattle.std.proofs.lemmas.List.{length-append, take_more}
use Rattle.std.proofs.lemmas.List.Elements.{All-contains_itself, All-weaker}
use Rattle.std.proofs.lemmas.List.Folds.{list_any-append}
use Rattle.std.proofs.lemmas.List.Sums.{sum_by_more, sum_by-take-le}
use Rattle.std.specs.List.{AllZip, list_any, sum_by}
use Rattle.std.specs.Prelude.{Contains}
use Rattle.s2cell.specs.Cell.{covers}
use Rattle.s2cell.specs.declared.TheConstants.{LEAVES}
use Rattle.s2geodesic.specs.Halves.{AreSpread}
use Rattle.s2geodesic.specs.Rounded.{AreTrue, IsPolygonOf, true_polygon}
use Rattle.s2list.proofs.Normal.{one_normal_form}
use Rattle.s2list.specs.Union.{IsNormalForm, has_leaf}
use Rattle.s2map.specs.declared.place.Place.{Place}
use Rattle.s2polygon.specs.Directions.{Point}
use Rattle.s2polygon.specs.Leaves.{Region, inner_leaf, outer_leaf}
use Rattle.s2shape.specs.Reading.{Shape}
use Rattle.s2written.proofs.Corners.{true_part}
use Rattle.s2written.proofs.Maps.{zip_push}
use Rattle.s2written.specs.Faults.{Never}
use Rattle.s2written.specs.Geodesics.{AreCornersOf, AreNone, GeodesicErrorIs, HasLongEdge, HasPart, HaveMore}
use Rattle.s2written.specs.Geodesics.{HaveTogether}
use Rattle.s2written.specs.Geodesics.{ArePolygonsOf, AreTrueCorners, IsPolygonOfSpan, IsRoundedCorner, Span, any_inner}
use Rattle.s2written.specs.Geodesics.{any_outer, spans, true_polygons}
use Rattle.s2written.specs.Maps.{corners_of, ends_of, first_ring}
use Rattle.s2written.specs.Working.Corners.{PartErrorIs}
use Rattle.s2written.specs.declared.fault.GeodesicError.{GeodesicError}
use Rattle.s2written.specs.declared.fault.GeodesicError.TheVariants as errors

-- ---- parts
module _ (corners : List Point) (s : Shape) where
  next_span : (k first end : ℕ) (b : Bool) → first ≡ first_ring s.parts k → end ≡ first_ring s.parts (k + 1)
      → (end == first) ≡ b
      → spans s.parts (k + 1) ≡ spans s.parts k ++ cond b [] (record { first = first; end = end } ∷ [])
  next_span k first end b f e is =
      let one : k + 1 ≡ suc k = omega arith in
      let g = rw one at e in
      rw (one, sym is, f, g) refl

  pub span_left_out : (k first end : ℕ) (rs : List Region) → first ≡ first_ring s.parts k
      → end ≡ first_ring s.parts (k + 1) → end ≡ first → ArePolygonsOf corners s k rs
      → ArePolygonsOf corners s (k + 1) rs
  span_left_out k first end rs f e same are = by (end == first) refl
    where
      by : (b : Bool) → (end == first) ≡ b → ArePolygonsOf corners s (k + 1) rs
      by true t =
          subst (λ (ss : List Span). AllZip (IsPolygonOfSpan corners s.rings) ss rs)
          (sym (next_span k first end true f e t ∙ append-nil (spans s.parts k))) are
      by false t = absurd (eqb-false end first t same)

  pub span_added : (k first end : ℕ) (rs : List Region) (r : Region) → first ≡ first_ring s.parts k
      → end ≡ first_ring s.parts (k + 1) → (end ≡ first → ⊥)
      → IsPolygonOf (corners_of corners s.rings first end) (ends_of s.rings first end) r → ArePolygonsOf corners s k rs
      → ArePolygonsOf corners s (k + 1) (rs ++ (r ∷ []))
  span_added k first end rs r f e other is are = by (end == first) refl
    where
      by : (b : Bool) → (end == first) ≡ b → ArePolygonsOf corners s (k + 1) (rs ++ (r ∷ []))
      by true t = absurd (other (eqb-true end first t))
      by false t =
          subst (λ (ss : List Span). AllZip (IsPolygonOfSpan corners s.rings) ss (rs ++ (r ∷ [])))
          (sym (next_span k first end false f e t))
          (zip_push (IsPolygonOfSpan corners s.rings) (spans s.parts k) rs (record { first = first; end = end }) r are
          is)

-- ---- leaves of coverings, polygon by polygon
or_first : (a b : Bool) → a ≡ true → a || b ≡ true
or_first true b e = refl
or_first false b e = absurd (cc)

or_last : (a b : Bool) → b ≡ true → a || b ≡ true
or_last true b e = refl
or_last false true e = refl
or_last false false e = absurd (cc)

or_both : (a b c d : Bool) → (a ≡ true → c ≡ true) → (b ≡ true → d ≡ true) → a || b ≡ true → c || d ≡ true
or_both true b c d h k e = or_first c d (h refl)
or_both false true c d h k e = or_last c d (k refl)
or_both false false c d h k e = absurd (cc)

or_none : (b : Bool) → b || false ≡ b
or_none true = refl
or_none false = refl

module _ (f : Region → ℕ → Bool) (rs : List Region) (i : ℕ) (r : Region) (l : i < length rs) (read : r ≡ get_or rs i r)
  where
    pub any_more : (x : ℕ) → list_any (λ r. f r x) (take (i + 1) rs) ≡ (list_any (λ r. f r x) (take i rs) || f r x)
    any_more x =
        let more : take (i + 1) rs ≡ take i rs ++ (r ∷ []) = take_more rs i r l
        ∙ ap (λ (y : Region). take i rs ++ (y ∷ [])) (sym read) in
        ap (list_any (λ r. f r x)) more ∙ list_any-append (λ r. f r x) (take i rs) (r ∷ [])
        ∙ ap (λ (b : Bool). list_any (λ r. f r x) (take i rs) || b) (or_none (f r x))

    pub leaves_more : (cells own : List ℕ) → ((x : ℕ) → has_leaf cells x ≡ list_any (λ r. f r x) (take i rs))
        → ((x : ℕ) → has_leaf own x ≡ f r x) → (x : ℕ)
        → has_leaf (cells ++ own) x ≡ list_any (λ r. f r x) (take (i + 1) rs)
    leaves_more cells own h k x =
        list_any-append (λ c. covers c x) cells own ∙ ap₂ (λ (a b : Bool). a || b) (h x) (k x) ∙ sym (any_more x)

    pub missed_more : (cells own : List ℕ)
        → ((x : ℕ) → x < LEAVES → list_any (λ r. f r x) (take i rs) ≡ true → has_leaf cells x ≡ true)
        → ((x : ℕ) → x < LEAVES → f r x ≡ true → has_leaf own x ≡ true) → (x : ℕ) → x < LEAVES
        → list_any (λ r. f r x) (take (i + 1) rs) ≡ true → has_leaf (cells ++ own) x ≡ true
    missed_more cells own h k x l is =
        by (list_any (λ r. f r x) (take i rs)) (f r x) refl refl (sym (any_more x) ∙ is)
      where
        by : (a b : Bool) → list_any (λ r. f r x) (take i rs) ≡ a → f r x ≡ b → (a || b) ≡ true
            → has_leaf (cells ++ own) x ≡ true
        by true b e g t =
            list_any-append (λ c. covers c x) cells own ∙ or_first (has_leaf cells x) (has_leaf own x) (h x l e)
        by false true e g t =
            list_any-append (λ c. covers c x) cells own ∙ or_last (has_leaf cells x) (has_leaf own x) (k x l g)
        by false false e g t = cc

    pub proper_more : (cells own : List ℕ)
        → ((x : ℕ) → has_leaf cells x ≡ true → list_any (λ r. f r x) (take i rs) ≡ true)
        → ((x : ℕ) → has_leaf own x ≡ true → f r x ≡ true) → (x : ℕ) → has_leaf (cells ++ own) x ≡ true
        → list_any (λ r. f r x) (take (i + 1) rs) ≡ true
    proper_more cells own h k x is =
        by (has_leaf cells x) (has_leaf own x) refl refl (sym (list_any-append (λ c. covers c x) cells own) ∙ is)
      where
        by : (a b : Bool) → has_leaf cells x ≡ a → has_leaf own x ≡ b → (a || b) ≡ true
            → list_any (λ r. f r x) (take (i + 1) rs) ≡ true
        by true b e g t = any_more x ∙ or_first (list_any (λ r. f r x) (take i rs)) (f r x) (h x e)
        by false true e g t = any_more x ∙ or_last (list_any (λ r. f r x) (take i rs)) (f r x) (k x g)
        by false false e g t = cc

-- ---- how many cells the coverings have, polygon by polygon
pub have_together : (f : Region → ℕ → Bool) (form : Region → List ℕ) → ((r : Region) → IsNormalForm (f r) (form r))
    → (rs : List Region) (n : ℕ) → n ≡ sum_by (λ r. length (form r)) rs → HaveTogether f rs n
have_together f form are rs n h = record {
  form = form;
  are_forms = All-weaker (Contains rs) (λ r. IsNormalForm (f r) (form r)) (λ r c. are r) rs (All-contains_itself rs);
  count = h;
}

module _ (f : Region → ℕ → Bool) (form : Region → List ℕ) (are : (r : Region) → IsNormalForm (f r) (form r))
    (rs : List Region) (i : ℕ) (r : Region) (l : i < length rs) (read : r ≡ get_or rs i r) where
  sum_more : sum_by (λ r. length (form r)) (take (i + 1) rs)
      ≡ sum_by (λ r. length (form r)) (take i rs) + length (form r)
  sum_more =
      sum_by_more (λ r. length (form r)) rs i r l
      ∙ ap (λ (y : Region). sum_by (λ r. length (form r)) (take i rs) + length (form y)) (sym read)

  pub count_more : (cells own : List ℕ) → length cells ≡ sum_by (λ r. length (form r)) (take i rs)
      → IsNormalForm (f r) own → length (cells ++ own) ≡ sum_by (λ r. length (form r)) (take (i + 1) rs)
  count_more cells own h n =
      let same = ap (λ (u : List ℕ). length u) (one_normal_form (f r) own (form r) n (are r)) in
      let more = sum_more in
      omega (arith, h, same, more, length-append cells own)

  pub have_more : (max n : ℕ) → n ≡ sum_by (λ r. length (form r)) (take i rs)
      → ((u : List ℕ) → IsNormalForm (f r) u → max - n < length u) → HaveMore f max rs
  have_more max n h many =
      let own = many (form r) (are r) in
      let more = sum_more in
      let all = sum_by-take-le (λ r. length (form r)) rs (i + 1) in
      (sum_by (λ r. length (form r)) rs, have_together f form are rs _ refl, omega (arith, h, own, more, all))

-- ---- true polygons
abbrev pub KeepsOuter : Type 0
KeepsOuter =
    (corners moved : List Point) (ends : List ℕ) (r : Region) (x : ℕ) → IsPolygonOf corners ends r
    → AreTrue corners moved → x < LEAVES → outer_leaf (true_polygon r moved ends) x ≡ true → outer_leaf r x ≡ true

abbrev pub KeepsInner : Type 0
KeepsInner =
    (corners moved : List Point) (ends : List ℕ) (r : Region) (x : ℕ) → IsPolygonOf corners ends r
    → AreTrue corners moved → x < LEAVES → inner_leaf r x ≡ true → inner_leaf (true_polygon r moved ends) x ≡ true

module _ (places : List Place) (corners moved : List Point) (rings : List ℕ)
    (rounded : AllZip IsRoundedCorner places corners) (t : AreTrueCorners places moved) (x : ℕ) (l : x < LEAVES) where
  pub true_outer : KeepsOuter → (ss : List Span) (rs : List Region) → AllZip (IsPolygonOfSpan corners rings) ss rs
      → any_outer (true_polygons moved rings ss rs) x ≡ true → any_outer rs x ≡ true
  true_outer law [] [] h is = is
  true_outer law [] (r ∷ rs) h is = absurd h
  true_outer law (s ∷ ss) [] h is = absurd h
  true_outer law (s ∷ ss) (r ∷ rs) h is =
      or_both (outer_leaf (true_polygon r (corners_of moved rings s.first s.end) (ends_of rings s.first s.end)) x)
      (any_outer (true_polygons moved rings ss rs) x) (outer_leaf r x) (any_outer rs x)
      (law (corners_of corners rings s.first s.end) (corners_of moved rings s.first s.end)
      (ends_of rings s.first s.end) r x h.0 (true_part places corners moved rings s.first s.end rounded t) l)
      (true_outer law ss rs h.1) is

  pub true_inner : KeepsInner → (ss : List Span) (rs : List Region) → AllZip (IsPolygonOfSpan corners rings) ss rs
      → any_inner rs x ≡ true → any_inner (true_polygons moved rings ss rs) x ≡ true
  true_inner law [] [] h is = is
  true_inner law [] (r ∷ rs) h is = absurd h
  true_inner law (s ∷ ss) [] h is = absurd h
  true_inner law (s ∷ ss) (r ∷ rs) h is =
      or_both (inner_leaf r x) (any_inner rs x)
      (inner_leaf (true_polygon r (corners_of moved rings s.first s.end) (ends_of rings s.first s.end)) x)
      (any_inner (true_polygons moved rings ss rs) x)
      (law (corners_of corners rings s.first s.end) (corners_of moved rings s.first s.end)
      (ends_of rings s.first s.end) r x h.0 (true_part places corners moved rings s.first s.end rounded t) l)
      (true_inner law ss rs h.1) is

-- ---- errors of parts
module _ (s : Shape) (k : ℕ) (places : List Place) (corners : List Point) (first end : ℕ) (rings : List ℕ)
    (l : k < length s.parts) (are : AreCornersOf s.positions places corners) (f : first ≡ first_ring s.parts k)
    (e : end ≡ first_ring s.parts (k + 1)) (same : rings ≡ s.rings) where
  has_part : (P : List Point → List ℕ → Type 0) → P (corners_of corners rings first end) (ends_of rings first end)
      → HasPart s k P
  has_part P h =
      let one : k + 1 ≡ suc k = omega arith in
      let g : end ≡ first_ring s.parts (suc k) = e ∙ ap (λ (n : ℕ). first_ring s.parts n) one in
      record {
        within = l;
        places = places;
        corners = corners;
        are_corners = are;
        is = subst (λ (rs : List ℕ). P (corners_of corners rs (first_ring s.parts k) (first_ring s.parts (suc k)))
            (ends_of rs (first_ring s.parts k) (first_ring s.parts (suc k)))) same
            (subst (λ (n : ℕ). P (corners_of corners rings (first_ring s.parts k) n)
            (ends_of rings (first_ring s.parts k) n)) g
            (subst (λ (n : ℕ). P (corners_of corners rings n end) (ends_of rings n end)) f h));
      }

  pub part_error : (error : GeodesicError)
      → PartErrorIs (corners_of corners rings first end) (ends_of rings first end) k error
      → GeodesicErrorIs Never s error
  part_error errors.Memory h = tt
  part_error (errors.Fault fault) h = absurd h
  part_error (errors.NoInside i) h = absurd h
  part_error errors.NoMap h = inr (k, has_part AreNone h)
  part_error (errors.LongEdge i) h =
      subst (λ (j : ℕ). HasPart s j HasLongEdge) (sym h.0) (has_part HasLongEdge h.1)
  part_error (errors.Spread i) h =
      subst (λ (j : ℕ). HasPart s j (λ corners ends. AreSpread corners)) (sym h.0)
      (has_part (λ corners ends. AreSpread corners) h.1)
  part_error errors.TooManyCells h = absurd h
