-- How many edges there are, and how many are left for a box; and what coverings by few cells have.
use Rattle.std.proofs.Common.{◌≡◌, refl, sym, ap, ◌∙◌, ℕ, ◌+◌, ◌-◌, ◌^◌, ◌<◌, arith, ◌⊎◌, inl, inr, Bool, true, false}
use Rattle.std.proofs.Common.{List, [], ◌∷◌, cond, filter, get_or, length, map, min, take}
use Rattle.std.proofs.Math.Nat.{zero-add}
use Rattle.std.proofs.lemmas.Bool.{both_ways}
use Rattle.std.proofs.lemmas.List.Sums.{sum_by-cons, sum_by_more}
use Rattle.std.specs.List.{sum_by}
use Rattle.s2list.specs.Union.{has_leaf}
use Rattle.s2map.specs.Cells.{HoldsPlace, IsProperPlace, LeafOutside}
use Rattle.s2map.specs.Few.{count_met}
use Rattle.s2map.specs.Map.{inside}
use Rattle.s2map.specs.Working.Near.{IsKnown, PartNear, edges_left, has_edges, has_some, near_box, seen}
use Rattle.s2map.specs.declared.near.Known.{Known}
use Rattle.s2map.specs.declared.place.MapBox.{MapBox}
use Rattle.s2map.specs.declared.place.MapEdge.{MapEdge}
use Rattle.s2map.specs.declared.place.Place.{Place}

-- ---- a count up to the greatest number
pub counted_next : {A : Type 0} (f : A → ℕ) (xs : List A) (i : ℕ) (d : A) (n m : ℕ) → i < length xs
    → n ≡ min (sum_by f (take i xs)) (2 ^ 64 - 1) → m ≡ min (n + f (get_or xs i d)) (2 ^ 64 - 1)
    → m ≡ min (sum_by f (take (i + 1) xs)) (2 ^ 64 - 1)
counted_next f xs i d n m l e g = let more = sum_by_more f xs i d l in omega (arith, more, e, g)

-- ---- sums over lists that are made of others
sum_mapped : {A B : Type 0} (f : B → ℕ) (g : A → B) (xs : List A) → sum_by f (map g xs) ≡ sum_by (λ x. f (g x)) xs
sum_mapped f g [] = refl
sum_mapped f g (x ∷ xs) =
    sum_by-cons f (g x) (map g xs)
    ∙ ap (λ n. f (g x) + n) (sum_mapped f g xs)
    ∙ sym (sum_by-cons (λ x. f (g x)) x xs)

abbrev edges_of_near : PartNear → ℕ
edges_of_near n = length n.edges

none_left : (es : List MapEdge) → has_some es ≡ false → length es ≡ 0
none_left [] h = refl
none_left (e ∷ es) h = cc

sum_left : (xs : List PartNear) → sum_by edges_of_near (filter has_edges xs) ≡ sum_by edges_of_near xs
sum_left [] = refl
sum_left (x ∷ xs) = by (has_edges x) refl (sum_left xs)
  where
    by : (t : Bool) → has_edges x ≡ t → sum_by edges_of_near (filter has_edges xs) ≡ sum_by edges_of_near xs
        → sum_by edges_of_near (cond t (x ∷ filter has_edges xs) (filter has_edges xs))
        ≡ sum_by edges_of_near (x ∷ xs)
    by true e same =
        sum_by-cons edges_of_near x (filter has_edges xs)
        ∙ ap (λ n. edges_of_near x + n) same
        ∙ sym (sum_by-cons edges_of_near x xs)
    by false e same =
        same
        ∙ sym (sum_by-cons edges_of_near x xs
        ∙ ap (λ n. n + sum_by edges_of_near xs) (none_left x.edges e)
        ∙ zero-add (sum_by edges_of_near xs))

-- the edges that are left for a box are those that meet it
pub left_met : (q : MapBox) (shape : List (List MapEdge)) (k : Known) → IsKnown shape q k → k.inside ≡ false
    → edges_left k ≡ count_met shape q
left_met q shape k known none =
    sym (sum_mapped edges_of_near seen k.parts.items)
    ∙ ap (sum_by edges_of_near) (known.left none)
    ∙ sum_left (map (near_box q) shape)
    ∙ sum_mapped edges_of_near (near_box q) shape

-- ---- no place inside is missing
pub none_missed : (shape : List (List MapEdge)) (u : List ℕ) (n : ℕ) (p : Place) → IsProperPlace p → HoldsPlace n p
    → inside shape p ≡ true → (has_leaf u n ≡ true) ⊎ LeafOutside shape n → has_leaf u n ≡ true
none_missed shape u n p proper holds h (inl has) = has
none_missed shape u n p proper holds h (inr out) = absurd (both_ways (inside shape p) (out p proper holds) h)
