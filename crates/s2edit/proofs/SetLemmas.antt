-- The tables of sets have what holds of the tables of lists.
use Rattle.std.proofs.Common.{◌≡◌, ℕ, zero, suc, Bool, List, [], ◌∷◌, map, take, slice_get, slice_set, Some, refl, sym}
use Rattle.std.proofs.Common.{ap, ◌∙◌}
use Rattle.std.proofs.lemmas.List.{map-set, take-map}
use Rattle.s2list.specs.Union.{has_leaf, IsLocal}
use Rattle.s2list.proofs.Normal.{same_from_leaves}
use Rattle.s2edit.specs.History.{History, changed, undone, redone, Assigned, sets, sets_of}

module _ {A : Type 0} {B : Type 0} (f : A → B) where
  pub slice_get_map : (xs : List A) (k : ℕ) (x : A) → slice_get xs k ≡ Some x → slice_get (map f xs) k ≡ Some (f x)
  slice_get_map [] k x h = absurd (cc)
  slice_get_map (y ∷ xs) zero x h = let e : y ≡ x = cc in ap (λ z. Some (f z)) e
  slice_get_map (y ∷ xs) (suc k) x h = slice_get_map xs k x h

pub sets-changed : (h : History (List ℕ)) (r : ℕ) (x : List ℕ) → sets (changed h r x) ≡ changed (sets h) r (has_leaf x)
sets-changed h r x =
    ap (λ (ts : List (List (ℕ → Bool))). record {
      limit = h.limit;
      depth = h.depth;
      past = ts;
      now = sets_of (slice_set h.now r x);
      future = [];
    }) (sym (take-map sets_of h.depth (h.now ∷ h.past)))
    ∙ ap (λ (t : List (ℕ → Bool)). record {
      limit = h.limit;
      depth = h.depth;
      past = take h.depth (sets_of h.now ∷ map sets_of h.past);
      now = t;
      future = [];
    })
    (map-set has_leaf h.now r x)

-- equal sets are equal lists, so the two cases of an assignment are the same ones
pub Assigned-sets : (h h' : History (List ℕ)) (r : ℕ) (x y : List ℕ) → slice_get h.now r ≡ Some y → IsLocal y →
    IsLocal x → Assigned h r x h' → Assigned (sets h) r (has_leaf x) (sets h')
Assigned-sets h h' r x y e ay ax a = record {
  same = λ f.
      let g : Some (has_leaf y) ≡ Some (has_leaf x) = sym (slice_get_map has_leaf h.now r y e) ∙ f in
      let k : has_leaf y ≡ has_leaf x = cc in
      ap sets (a.same (e ∙ ap (λ (l : List ℕ). Some l)
      (same_from_leaves y x ay ax (λ c. ap (λ (s : ℕ → Bool). s c) k))));
  differs = λ n. ap sets (a.differs (λ f. n (slice_get_map has_leaf h.now r x f))) ∙ sets-changed h r x;
}

pub sets-undone : (h : History (List ℕ)) → sets (undone h) ≡ undone (sets h)
sets-undone h = elim h.past as (λ ps. sets (undone (record h { past = ps }))
    ≡ undone (sets (record h { past = ps }))) [ [] ↦ refl | ◌∷◌ t ts ↦ refl ]

pub sets-redone : (h : History (List ℕ)) → sets (redone h) ≡ redone (sets h)
sets-redone h = elim h.future as (λ fs. sets (redone (record h { future = fs }))
    ≡ redone (sets (record h { future = fs }))) [ [] ↦ refl | ◌∷◌ t ts ↦ refl ]
