-- The map of a shape: its places, one by one, and its parts, one by one.
use Rattle.std.proofs.Common.{◌≡◌, refl, sym, ap, ◌∙◌, subst, ℕ, suc, ◌+◌, ◌<◌, ◌==◌, arith, append-nil}
use Rattle.std.proofs.Common.{inl, inr, List, [], ◌∷◌, ◌++◌, All, Bool, cond, true, false, eqb-true, get_or, length}
use Rattle.std.proofs.Common.{take}
use Rattle.std.proofs.lemmas.Bool.{eqb-false}
use Rattle.std.proofs.lemmas.List.{get_or_read_under, take_more}
use Rattle.std.proofs.lemmas.List.Elements.{All-cons, All-get_or, All-nil}
use Rattle.std.specs.List.{AllZip}
use Rattle.s2map.specs.Map.{IsMapPlace}
use Rattle.s2map.specs.Rings.{AreRings, FaultMeans}
use Rattle.s2map.specs.declared.fault.MapFault.{MapFault}
use Rattle.s2map.specs.declared.fault.MapFault.TheVariants.{NoRing, WrongEnd, TooFewCorners, Corner, OutOfRange}
use Rattle.s2map.specs.declared.fault.MapFault.TheVariants.{WrongBox, Memory}
use Rattle.s2map.specs.declared.place.MapEdge.{MapEdge}
use Rattle.s2map.specs.declared.place.Place.{Place}
use Rattle.s2polygon.specs.Rings.{start_of}
use Rattle.s2shape.specs.declared.shape.Kind.TheVariants.{Point}
use Rattle.s2shape.specs.declared.shape.Part.{Part}
use Rattle.s2shape.specs.declared.shape.Position.{Position}
use Rattle.s2written.specs.Maps.{ArePlacesOf, IsPlaceOf, edges_of, first_ring, parts_edges}

-- ---- places
pub zip_push : {A B : Type 0} (R : A → B → Type 0) (xs : List A) (ys : List B) (x : A) (y : B) → AllZip R xs ys → R x y
    → AllZip R (xs ++ (x ∷ [])) (ys ++ (y ∷ []))
zip_push R [] [] x y h is = (is, tt)
zip_push R [] (z ∷ ys) x y h is = absurd h
zip_push R (w ∷ xs) [] x y h is = absurd h
zip_push R (w ∷ xs) (z ∷ ys) x y h is = (h.0, zip_push R xs ys x y h.1 is)

-- one more position, as code reads it
pub places_next : (positions : List Position) (i : ℕ) (corners : List Place) (q : Position) (p : Place)
    → i < length positions → q ≡ get_or positions i q → ArePlacesOf (take i positions) corners → IsPlaceOf q p
    → ArePlacesOf (take (i + 1) positions) (corners ++ (p ∷ []))
places_next positions i corners q p l read h is =
    let more : take (i + 1) positions ≡ take i positions ++ (q ∷ []) = take_more positions i q l
    ∙ ap (λ (x : Position). take i positions ++ (x ∷ [])) (sym read) in
    subst (λ (qs : List Position). ArePlacesOf qs (corners ++ (p ∷ []))) (sym more)
    (zip_push IsPlaceOf (take i positions) corners q p h is)

pub on_map : (positions : List Position) (corners : List Place) → ArePlacesOf positions corners
    → All IsMapPlace corners
on_map [] [] h = All-nil IsMapPlace
on_map [] (p ∷ ps) h = absurd h
on_map (q ∷ qs) [] h = absurd h
on_map (q ∷ qs) (p ∷ ps) h = All-cons IsMapPlace p ps h.0.on_map (on_map qs ps h.1)

-- ---- corners and ends that are no rings
pub no_rings : (corners : List Place) (ends : List ℕ) (fault : MapFault) → All IsMapPlace corners
    → FaultMeans corners ends fault → (fault ≡ Memory → ⊥) → AreRings corners ends → ⊥
no_rings corners ends NoRing on fault other h =
    let s = h.some in
    let n : length ends ≡ 0 = rw fault refl in
    omega (arith, n, s)
no_rings corners ends (WrongEnd r) on fault other h =
    let b = (h.rings r fault.0).begins in
    let w = (h.rings r fault.0).ends_within in
    let whole = h.whole in
    elim fault.1 [
      | inl e ↦ omega (arith, e, b)
      | inr (inl e) ↦ omega (arith, e, w)
      | inr (inr e) ↦
          let p = e.0 in
          let one : suc r ≡ length ends = omega (arith, p) in
          let last : start_of ends (suc r) ≡ length corners = ap (start_of ends) one ∙ whole in
          let short = e.1 in
          omega (arith, last, short)
    ]
no_rings corners ends (TooFewCorners r) on fault other h =
    let b = (h.rings r fault.0).begins in
    let few = fault.1 in
    omega (arith, b, few)
no_rings corners ends (Corner i) on fault other h = fault.1 (All-get_or IsMapPlace corners i _ fault.0 on)
no_rings corners ends OutOfRange on fault other h = fault
no_rings corners ends WrongBox on fault other h = fault
no_rings corners ends Memory on fault other h = other refl

-- ---- parts
-- where a part ends, as code reads it
pub ends_at : (parts : List Part) (k : ℕ) (part : Part) → k < length parts → part ≡ get_or parts k part
    → part.end ≡ first_ring parts (k + 1)
ends_at parts k part l read =
    let one : k + 1 ≡ suc k = omega arith in
    rw one (ap (λ (p : Part). p.end)
    (get_or_read_under parts k (length parts) part (record { kind = Point; end = 0 }) read l refl))

module _ (corners : List Place) (rings : List ℕ) (parts : List Part) where
  next_of : (k first end : ℕ) (b : Bool) → first ≡ first_ring parts k → end ≡ first_ring parts (k + 1)
      → (end == first) ≡ b → parts_edges corners rings parts (k + 1)
      ≡ parts_edges corners rings parts k ++ cond b [] (edges_of corners rings first end ∷ [])
  next_of k first end b f e is =
      let one : k + 1 ≡ suc k = omega arith in
      let g = rw one at e in
      rw (one, sym is, f, g) refl

  -- a part without a ring is left out
  pub left_out : (k first end : ℕ) (map : List (List MapEdge)) → first ≡ first_ring parts k
      → end ≡ first_ring parts (k + 1) → end ≡ first → map ≡ parts_edges corners rings parts k
      → map ≡ parts_edges corners rings parts (k + 1)
  left_out k first end map f e same is = by (end == first) refl
    where
      by : (b : Bool) → (end == first) ≡ b → map ≡ parts_edges corners rings parts (k + 1)
      by true t = is ∙ sym (next_of k first end true f e t ∙ append-nil (parts_edges corners rings parts k))
      by false t = absurd (eqb-false end first t same)

  -- the edges of another are added
  pub added : (k first end : ℕ) (map more : List (List MapEdge)) (es : List MapEdge) → first ≡ first_ring parts k
      → end ≡ first_ring parts (k + 1) → (end ≡ first → ⊥) → map ≡ parts_edges corners rings parts k
      → es ≡ edges_of corners rings first end → more ≡ map ++ (es ∷ []) → more ≡ parts_edges corners rings parts (k + 1)
  added k first end map more es f e other is own make = by (end == first) refl
    where
      by : (b : Bool) → (end == first) ≡ b → more ≡ parts_edges corners rings parts (k + 1)
      by true t = absurd (other (eqb-true end first t))
      by false t =
          make ∙ ap (λ (m : List (List MapEdge)). m ++ (es ∷ [])) is
          ∙ ap (λ (x : List MapEdge). parts_edges corners rings parts k ++ (x ∷ [])) own
          ∙ sym (next_of k first end false f e t)
