-- How cells lie by their boxes, and what is known of a covering on its way.
use Rattle.std.proofs.Common.{◌≡◌, refl, sym, ap, ◌∙◌, subst, ℕ, ◌+◌, ◌-◌, ◌/◌, ◌^◌, ◌<◌, arith, ◌⊎◌, inl, inr}
use Rattle.std.proofs.Common.{Bool, true, false, ◌||◌, pos, List, [], ◌∷◌, ◌++◌, All, div-one, length}
use Rattle.std.proofs.lemmas.List.{length-append}
use Rattle.std.proofs.lemmas.Bool.{cases_lt, or_left, or_right}
use Rattle.std.proofs.lemmas.Int.{ints}
use Rattle.std.proofs.lemmas.List.Elements.{All-cons, All-head, All-nil, All-push, All-tail}
use Rattle.std.proofs.lemmas.List.Folds.{list_any-append}
use Rattle.s2cell.proofs.CellLemmas.{own_place}
use Rattle.s2cell.proofs.Family.{child_within}
use Rattle.s2cell.proofs.Leaves.{inside_from_within}
use Rattle.s2cell.proofs.Squares.{covers_block}
use Rattle.s2cell.specs.Cell.{IsCell, child_of, covers, face_of, level_of, place_of}
use Rattle.s2list.proofs.Normal.{child_of_leaf}
use Rattle.s2list.specs.Union.{has_leaf}
use Rattle.s2map.proofs.Turns.{turned_inside}
use Rattle.s2map.specs.Boxes.{InBox}
use Rattle.s2map.specs.Cells.{HasMore, HoldsPlace, IsBoxOf, IsPartOfCell, IsProperPlace, LeafInside}
use Rattle.s2map.specs.Map.{IsMapEdge, IsMapPlace, inside, place_turned}
use Rattle.s2map.specs.Working.Covering.{IsFound, IsSorted, Keeps}
use Rattle.s2map.specs.Working.Even.{IsPart}
use Rattle.s2map.specs.declared.place.MapBox.{MapBox}
use Rattle.s2map.specs.declared.place.MapEdge.{MapEdge}
use Rattle.s2map.specs.declared.place.Place.{Place}
use Rattle.s2map.specs.declared.shape.BoxPart.TheVariants.{Met}

-- ---- what is so of a box of a cell is so of the cell
edges_of_parts : (shape : List (List MapEdge)) → All IsPart shape → All (All IsMapEdge) shape
edges_of_parts [] h = All-nil (All IsMapEdge)
edges_of_parts (es ∷ shape) h =
    All-cons (All IsMapEdge) es shape (All-head IsPart es shape h).edges
    (edges_of_parts shape (All-tail IsPart es shape h))

on_map : (p : Place) → IsProperPlace p → IsMapPlace p
on_map p h = record {
  longitude = omega (arith, ints, h.west, h.east);
  latitude = omega (arith, h.latitude);
}

on_next_turn : (p : Place) → IsProperPlace p → IsMapPlace (place_turned (pos 1) p)
on_next_turn p h = record {
  longitude = omega (arith, ints, h.west, h.east);
  latitude = omega (arith, h.latitude);
}

pub by_box : (shape : List (List MapEdge)) (c : ℕ) (q : MapBox) (answer : Bool) → All IsPart shape → IsBoxOf c q
    → ((p : Place) → InBox q p → inside shape p ≡ answer) → (n : ℕ) → covers c n ≡ true → (p : Place)
    → IsProperPlace p → HoldsPlace n p → inside shape p ≡ answer
by_box shape c q answer parts boxed all n covered p proper holds = elim (boxed n p covered proper holds) [
  | inl b ↦ all p b
  | inr b ↦
      sym (turned_inside p (on_map p proper) (on_next_turn p proper) shape (edges_of_parts shape parts))
      ∙ all (place_turned (pos 1) p) b
]

-- a box of a child is one of its own, or its parent's
pub child_boxed : (c i : ℕ) (q s r : MapBox) → IsCell c → level_of c < 30 → i < 4 → IsBoxOf c q
    → IsBoxOf (child_of c i) s → (r ≡ q) ⊎ (r ≡ s) → IsBoxOf (child_of c i) r
child_boxed c i q s r is deep four up own (inl e) =
    subst (IsBoxOf (child_of c i)) (sym e)
    (λ n p covered. up n p (inside_from_within (child_of c i) c (child_within c i is deep four) n covered))
child_boxed c i q s r is deep four up own (inr e) = subst (IsBoxOf (child_of c i)) (sym e) own

-- ---- a cell that is added to a list
module _ (shape : List (List MapEdge)) (k : ℕ) where
  pub met_pushed : (met within : List ℕ) (c : ℕ) → IsSorted shape k met within → level_of c ≡ k
      → IsPartOfCell shape c Met → IsSorted shape k (met ++ (c ∷ [])) within
  met_pushed met within c s e m = record {
    are_met = All-push (λ d. (level_of d ≡ k) × IsPartOfCell shape d Met) met c s.are_met (e, m);
    are_inside = s.are_inside;
  }

  pub within_pushed : (met within : List ℕ) (c : ℕ) → IsSorted shape k met within
      → ((n : ℕ) → covers c n ≡ true → LeafInside shape n) → IsSorted shape k met (within ++ (c ∷ []))
  within_pushed met within c s all = record {
    are_met = s.are_met;
    are_inside = λ n h. either n (has_leaf within n) (covers c n) refl refl
        (sym (list_any-append (λ d. covers d n) within (c ∷ [])) ∙ h);
  }
    where
      either : (n : ℕ) (a b : Bool) → has_leaf within n ≡ a → covers c n ≡ b → (a || (b || false)) ≡ true
          → LeafInside shape n
      either n true b ea eb h = s.are_inside n ea
      either n false true ea eb h = all n eb
      either n false false ea eb h = cc

  -- ---- and if there are too many with it
  pub more_met : (met within : List ℕ) (c most : ℕ) → IsSorted shape k met within → level_of c ≡ k
      → IsPartOfCell shape c Met → most < length met + 1 + length within → HasMore shape k most
  more_met met within c most s e m more =
      let t = met_pushed met within c s e m in
      let l = length-append met (c ∷ []) in
      record {
        met = met ++ (c ∷ []);
        within = within;
        are_met = t.are_met;
        are_inside = t.are_inside;
        more = omega (arith, l, more);
      }

  pub more_within : (met within : List ℕ) (c most : ℕ) → IsSorted shape k met within
      → ((n : ℕ) → covers c n ≡ true → LeafInside shape n) → most < length within + 1 + length met
      → HasMore shape k most
  more_within met within c most s all more =
      let t = within_pushed met within c s all in
      let l = length-append within (c ∷ []) in
      record {
        met = met;
        within = within ++ (c ∷ []);
        are_met = t.are_met;
        are_inside = t.are_inside;
        more = omega (arith, l, more);
      }

  -- ---- after some of the four children
  pub record Visited (cell digit : ℕ) (met0 within0 met within : List ℕ) : Type 0 where
    pub sorted : IsSorted shape k met within
    pub keeps_met : Keeps met0 met
    pub keeps_within : Keeps within0 within
    pub found : (i n : ℕ) → i < digit → covers (child_of cell i) n ≡ true → IsFound shape met within n

  found_more : (met within more_met more_within : List ℕ) (n : ℕ) → Keeps met more_met → Keeps within more_within
      → IsFound shape met within n → IsFound shape more_met more_within n
  found_more met within more_met more_within n a b (inl h) = inl (a.all n h)
  found_more met within more_met more_within n a b (inr (inl h)) = inr (inl (b.all n h))
  found_more met within more_met more_within n a b (inr (inr h)) = inr (inr h)

  pub next_visited : (cell digit : ℕ) (met0 within0 met within more_met more_within : List ℕ)
      → Visited cell digit met0 within0 met within → IsSorted shape k more_met more_within → Keeps met more_met
      → Keeps within more_within
      → ((n : ℕ) → covers (child_of cell digit) n ≡ true → IsFound shape more_met more_within n)
      → Visited cell (digit + 1) met0 within0 more_met more_within
  next_visited cell digit met0 within0 met within more_met more_within v s a b all = record {
    sorted = s;
    keeps_met = record { all = λ n h. a.all n (v.keeps_met.all n h) };
    keeps_within = record { all = λ n h. b.all n (v.keeps_within.all n h) };
    found = λ i n l h. elim (cases_lt i digit) [
      | inl m ↦ found_more met within more_met more_within n a b (v.found i n m h)
      | inr g ↦
          let e : i ≡ digit = omega (arith, l, g) in
          all n (subst (λ (j : ℕ). covers (child_of cell j) n ≡ true) e h)
    ];
  }

  pub all_visited : (cell : ℕ) (met0 within0 met within : List ℕ) → Visited cell 4 met0 within0 met within → IsCell cell
      → level_of cell < 30 → (n : ℕ) → covers cell n ≡ true → IsFound shape met within n
  all_visited cell met0 within0 met within v is deep n h =
      let child = child_of_leaf n is deep h in
      v.found child.0 n child.1 child.2

  -- ---- after some of the six faces
  pub record Topped (face : ℕ) (met within : List ℕ) : Type 0 where
    pub sorted : IsSorted shape k met within
    pub found : (n : ℕ) → n / 4 ^ 30 < face → IsFound shape met within n

  pub next_topped : (face c : ℕ) (met within more_met more_within : List ℕ) → Topped face met within → IsCell c
      → level_of c ≡ 0 → face_of c ≡ face → IsSorted shape k more_met more_within → Keeps met more_met
      → Keeps within more_within → ((n : ℕ) → covers c n ≡ true → IsFound shape more_met more_within n)
      → Topped (face + 1) more_met more_within
  unfolding face_of
  next_topped face c met within more_met more_within t is top ef s a b all = record {
    sorted = s;
    found = λ n l. elim (cases_lt (n / 4 ^ 30) face) [
      | inl m ↦ found_more met within more_met more_within n a b (t.found n m)
      | inr g ↦
          let on : n / 4 ^ 30 ≡ face = omega (arith, l, g) in
          let one : place_of c / 4 ^ level_of c ≡ place_of c = ap (λ z. place_of c / 4 ^ z) top ∙ div-one
          (place_of c) in
          let d : n / 4 ^ (30 - level_of c) ≡ n / 4 ^ 30 = ap (λ z. n / 4 ^ (30 - z)) top in
          all n (covers_block c (level_of c) (place_of c) n (own_place c is) (d ∙ on ∙ sym ef ∙ one))
    ];
  }

  pub none_lost : (met within : List ℕ) → Topped 6 met within → (n : ℕ) (p : Place) → IsProperPlace p → HoldsPlace n p
      → inside shape p ≡ true → has_leaf (met ++ within) n ≡ true
  none_lost met within t n p proper holds h =
      let below = holds.leaf in
      let both = list_any-append (λ d. covers d n) met within in
      elim (t.found n (omega (arith, below))) [
        | inl m ↦ both ∙ or_left (has_leaf met n) (has_leaf within n) m
        | inr (inl w) ↦ both ∙ or_right (has_leaf met n) (has_leaf within n) w
        | inr (inr out) ↦ absurd (differ (sym (out p proper holds) ∙ h))
      ]
    where
      differ : false ≡ true → ⊥
      differ e = cc
