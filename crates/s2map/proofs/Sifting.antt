-- Lists of edges as code makes them: those that are kept, one after another.
use Rattle.std.proofs.Common.{◌≡◌, sym, ap, ◌∙◌, ℕ, zero, suc, ◌+◌, ◌<◌, arith, Bool, true, false, not, cond, List}
use Rattle.std.proofs.Common.{[], ◌∷◌, ◌++◌, All, append_assoc, filter, length, map, subst, take, get_or, ◌&&◌, ◌||◌}
use Rattle.std.proofs.Math.Bool.{beq, xor}
use Rattle.std.proofs.lemmas.Bool.{or_right}
use Rattle.std.proofs.lemmas.List.{append-nil, take_more}
use Rattle.std.proofs.lemmas.List.Elements.{All-append, All-cons, All-nil, filter-append}
use Rattle.std.specs.List.{list_any}
use Rattle.s2polygon.proofs.Changes.{xor_none}
use Rattle.s2polygon.proofs.Steps.{either_answer, odd_more, xor_moves}
use Rattle.s2polygon.specs.Parity.{is_odd_by}
use Rattle.s2map.specs.Boxes.{meets, south_west}
use Rattle.s2map.specs.Working.Near.{HasNearEdges, IsSummary, PartNear, changes, has_edges, is_whole, seen}
use Rattle.s2map.specs.Working.Sizes.{IsNearEdge}
use Rattle.s2map.specs.declared.near.Known.{Known}
use Rattle.s2map.specs.declared.near.Near.{Near}
use Rattle.s2map.specs.declared.place.MapBox.{MapBox}
use Rattle.s2map.specs.declared.place.MapEdge.{MapEdge}
use Rattle.s2map.specs.declared.place.Place.{Place}

module _ {A : Type 0} (m : A → Bool) where
  -- an element that is added if it passes
  pub kept_one : (old : List A) (x : A) (k : Bool) → k ≡ m x → cond k (old ++ (x ∷ [])) old ≡ old ++ filter m (x ∷ [])
  kept_one old x true is = ap (λ b. old ++ cond b (x ∷ []) []) is
  kept_one old x false is = sym (append-nil old) ∙ ap (λ b. old ++ cond b (x ∷ []) []) is

  -- one more after those of a list
  pub kept_next : (old before new xs ys : List A) → before ≡ old ++ filter m xs → new ≡ before ++ filter m ys
      → new ≡ old ++ filter m (xs ++ ys)
  kept_next old before new xs ys e f =
      f ∙ ap (λ (l : List A). l ++ filter m ys) e ∙ append_assoc old (filter m xs) (filter m ys)
      ∙ ap (λ (l : List A). old ++ l) (sym (filter-append m xs ys))

  pub kept_take : (new old : List A) (xs : List A) (i : ℕ) (d : A) (k : Bool) → i < length xs → k ≡ m (get_or xs i d)
      → old ≡ filter m (take i xs) → new ≡ cond k (old ++ (get_or xs i d ∷ [])) old → new ≡ filter m (take (i + 1) xs)
  kept_take new old xs i d k l is e f =
      f ∙ kept_one old (get_or xs i d) k is
      ∙ ap (λ (x : List A). x ++ filter m (get_or xs i d ∷ [])) e
      ∙ sym (filter-append m (take i xs) (get_or xs i d ∷ []))
      ∙ sym (ap (filter m) (take_more xs i d l))

near_if : (old : List MapEdge) (e : MapEdge) (k : Bool) → All IsNearEdge old → IsNearEdge e
    → All IsNearEdge (cond k (old ++ (e ∷ [])) old)
near_if old e true a n = All-append IsNearEdge old (e ∷ []) a (All-cons IsNearEdge e [] n (All-nil IsNearEdge))
near_if old e false a n = a

pub near_kept : (old new : List MapEdge) (e : MapEdge) (k : Bool) → All IsNearEdge old → IsNearEdge e
    → new ≡ cond k (old ++ (e ∷ [])) old → All IsNearEdge new
near_kept old new e k a n is = subst (All IsNearEdge) (sym is) (near_if old e k a n)

-- ---- an answer of two, and one more
pub over_yes : (r s w v t u : Bool) → r ≡ w → s ≡ v → t ≡ u → not (beq r s) ≡ true → t ≡ (xor w v && u)
over_yes r s w v t u e f g h = g ∙ sym (ap (λ b. b && u) (sym (either_answer r s w v e f) ∙ h))

pub over_no : (r s w v u : Bool) → r ≡ w → s ≡ v → not (beq r s) ≡ false → not (beq r s) ≡ (xor w v && u)
over_no r s w v u e f h = h ∙ sym (ap (λ b. b && u) (sym (either_answer r s w v e f) ∙ h))

-- ---- the edges of a part that meet a smaller box
pub record Sifted (from : Place) (q : MapBox) (odd0 : Bool) (es : List MapEdge) (i : ℕ) (odd : Bool)
    (edges : List MapEdge) : Type 0 where
  pub odd_is : odd ≡ xor odd0 (is_odd_by (changes from (south_west q)) (take i es))
  pub edges_are : edges ≡ filter (meets q) (take i es)
  pub near : All IsNearEdge edges

pub none_sifted : (from : Place) (q : MapBox) (odd0 : Bool) (es edges : List MapEdge) → edges ≡ []
    → Sifted from q odd0 es 0 odd0 edges
none_sifted from q odd0 es edges e = record {
  odd_is = sym (xor_none odd0);
  edges_are = e;
  near = subst (All IsNearEdge) (sym e) (All-nil IsNearEdge);
}

pub sifted_next : (from : Place) (q : MapBox) (odd0 : Bool) (es : List MapEdge) (i : ℕ) (d : MapEdge)
    (odd change k : Bool) (edges more : List MapEdge) → i < length es
    → change ≡ changes from (south_west q) (get_or es i d)
    → k ≡ meets q (get_or es i d) → more ≡ cond k (edges ++ (get_or es i d ∷ [])) edges → IsNearEdge (get_or es i d)
    → Sifted from q odd0 es i odd edges → Sifted from q odd0 es (i + 1) (not (beq odd change)) more
sifted_next from q odd0 es i d odd change k edges more l c is new near s =
    let before = is_odd_by (changes from (south_west q)) (take i es) in
    let own = changes from (south_west q) (get_or es i d) in
    record {
      odd_is =
          either_answer odd change (xor odd0 before) own s.odd_is c
          ∙ sym (xor_moves odd0 before own)
          ∙ ap (xor odd0) (sym (ap (is_odd_by (changes from (south_west q))) (take_more es i d l)
          ∙ odd_more (changes from (south_west q)) (take i es) (get_or es i d)));
      edges_are = kept_take (meets q) more edges es i d k l is s.edges_are new;
      near = near_kept edges more (get_or es i d) k s.near near new;
    }

-- ---- what is known of all parts
-- of the first parts none has the box inside, and those that have edges left are listed
pub record Summed (parts : List PartNear) (left : List Near) : Type 0 where
  pub none : list_any is_whole parts ≡ false
  pub left_are : map seen left ≡ filter has_edges parts
  pub near : All HasNearEdges left

module _ {A : Type 0} (f : A → PartNear) (xs : List A) (i : ℕ) (d : A) (l : i < length xs) where
  pub whole_found : (part : PartNear) (whole : Bool) → part ≡ f (get_or xs i d) → whole ≡ is_whole part
      → whole ≡ true → list_any is_whole (map f xs) ≡ true
  whole_found part whole is w so = any_mapped xs i l (ap is_whole (sym is) ∙ sym w ∙ so)
    where
      any_mapped : (ys : List A) (j : ℕ) → j < length ys → is_whole (f (get_or ys j d)) ≡ true
          → list_any is_whole (map f ys) ≡ true
      any_mapped [] j m h = absurd (omega arith)
      any_mapped (y ∷ ys) zero m h = ap (λ b. b || list_any is_whole (map f ys)) h
      any_mapped (y ∷ ys) (suc j) m h =
          or_right (is_whole (f y)) (list_any is_whole (map f ys)) (any_mapped ys j (omega arith) h)

pub one_whole : (parts : List PartNear) (known : Known) → list_any is_whole parts ≡ true → known.inside ≡ true
    → All HasNearEdges known.parts.items → IsSummary parts known
one_whole parts known h so near = record {
  inside = so ∙ sym h;
  left = λ none. absurd (both (sym so ∙ none));
  near = near;
}
  where
    both : true ≡ false → ⊥
    both e = cc
