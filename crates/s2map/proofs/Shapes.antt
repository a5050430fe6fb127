-- How boxes lie relative to all parts of a shape.
use Rattle.std.proofs.Common.{◌≡◌, refl, sym, ◌∙◌, ap, Bool, true, false, not, cond, ◌&&◌, ◌||◌, List, [], ◌∷◌, All}
use Rattle.std.proofs.Common.{arith}
use Rattle.std.proofs.lemmas.Bool.{and_parts, or_from, or_left, or_parts, or_right}
use Rattle.std.proofs.lemmas.Int.{ints}
use Rattle.std.specs.List.{list_any}
use Rattle.std.proofs.lemmas.List.Elements.{All-head, All-tail}
use Rattle.s2map.proofs.Boxes.{same_inside}
use Rattle.s2map.specs.Boxes.{InBox, IsBox, holds_box, met_by, part_of, south_west}
use Rattle.s2map.specs.Map.{inside, inside_part}
use Rattle.s2map.specs.Working.Even.{IsPart}
use Rattle.s2map.specs.declared.place.MapBox.{MapBox}
use Rattle.s2map.specs.declared.place.MapEdge.{MapEdge}
use Rattle.s2map.specs.declared.place.Place.{Place}
use Rattle.s2map.specs.declared.shape.BoxPart.{BoxPart}
use Rattle.s2map.specs.declared.shape.BoxPart.TheVariants.{Out, In, Met}

not_true : (b : Bool) → not b ≡ true → b ≡ false
not_true true e = cc
not_true false e = refl

module _ (q : MapBox) (is : IsBox q) (p : Place) (within : InBox q p) where
  at_corner : InBox q (south_west q)
  at_corner =
      let w = is.wide in
      let h = is.high in
      record { west = omega (arith, ints); east = w; south = omega (arith, ints); north = h }

  inside_all : (shape : List (List MapEdge)) → All IsPart shape → list_any (holds_box q) shape ≡ true
      → inside shape p ≡ true
  inside_all [] parts h = cc
  inside_all (es ∷ shape) parts h = by (holds_box q es) refl (inside_all shape (All-tail IsPart es shape parts))
    where
      by : (t : Bool) → holds_box q es ≡ t → (list_any (holds_box q) shape ≡ true → inside shape p ≡ true)
          → inside (es ∷ shape) p ≡ true
      by true e rest =
          let two = and_parts (not (met_by q es)) (inside_part (south_west q) es) e in
          or_left (inside_part p es) (inside shape p)
          (same_inside q p (south_west q) within at_corner es (All-head IsPart es shape parts)
          (not_true (met_by q es) two.0) ∙ two.1)
      by false e rest = or_right (inside_part p es) (inside shape p)
          (rest (sym (ap (λ (b : Bool). b || list_any (holds_box q) shape) e) ∙ h))

  outside_all : (shape : List (List MapEdge)) → All IsPart shape → list_any (holds_box q) shape ≡ false
      → list_any (met_by q) shape ≡ false → inside shape p ≡ false
  outside_all [] parts h k = refl
  outside_all (es ∷ shape) parts h k =
      let two = or_parts (holds_box q es) (list_any (holds_box q) shape) h in
      let met = or_parts (met_by q es) (list_any (met_by q) shape) k in
      or_from (inside_part p es) (inside shape p)
      (same_inside q p (south_west q) within at_corner es (All-head IsPart es shape parts) met.0
      ∙ sym (ap (λ (b : Bool). not b && inside_part (south_west q) es) met.0) ∙ two.0)
      (outside_all shape (All-tail IsPart es shape parts) two.1 met.1)

  module _ (shape : List (List MapEdge)) (parts : All IsPart shape) where
    pub part_in : part_of shape q ≡ In → inside shape p ≡ true
    part_in h = by (list_any (holds_box q) shape) refl
      where
        by : (t : Bool) → list_any (holds_box q) shape ≡ t → inside shape p ≡ true
        by true e = inside_all shape parts e
        by false e = absurd (other (list_any (met_by q) shape)
            (sym (ap (λ (t : Bool). cond t In (cond (list_any (met_by q) shape) Met Out)) e) ∙ h))
          where
            other : (t : Bool) → ◌≡◌ {A = BoxPart} (cond t Met Out) In → ⊥
            other true e = cc
            other false e = cc

    pub part_out : part_of shape q ≡ Out → inside shape p ≡ false
    part_out h = by (list_any (holds_box q) shape) (list_any (met_by q) shape) refl refl
      where
        by : (s t : Bool) → list_any (holds_box q) shape ≡ s → list_any (met_by q) shape ≡ t → inside shape p ≡ false
        by true t d e =
            absurd (other (sym (ap (λ (t : Bool). cond t In (cond (list_any (met_by q) shape) Met Out)) d) ∙ h))
          where
            other : ◌≡◌ {A = BoxPart} In Out → ⊥
            other e = cc
        by false true d e =
            absurd (other (sym (ap (λ (t : Bool). cond t In (cond (list_any (met_by q) shape) Met Out)) d
            ∙ ap (λ (t : Bool). cond t Met Out) e) ∙ h))
          where
            other : ◌≡◌ {A = BoxPart} Met Out → ⊥
            other e = cc
        by false false d e = outside_all shape parts d e
