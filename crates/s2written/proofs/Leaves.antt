-- The leaves of two lists of cells.
use Rattle.std.proofs.Common.{◌≡◌, refl, sym, subst, ◌∙◌, ℕ, inl, inr, ◌⊎◌, Bool, true, false, ◌||◌, List, ◌++◌}
use Rattle.std.proofs.lemmas.List.Folds.{Any-from_list_any, list_any-append}
use Rattle.s2cell.specs.Cell.{covers, level_of}
use Rattle.s2list.specs.Union.{IsLocal, has_leaf}
use Rattle.s2map.specs.Cells.{AreMet, IsPartOfCell}
use Rattle.s2map.specs.declared.place.MapEdge.{MapEdge}
use Rattle.s2map.specs.declared.shape.BoxPart.TheVariants.{Met}
use Rattle.s2shape.specs.Reading.{Shape}
use Rattle.s2written.specs.Coverings.{AreCoverings, HasNoneOutside, IsMet, MissesNone}
use Rattle.s2written.specs.Maps.{IsMapOf}

-- a leaf of both lists together is in the second, or in a cell that is met
pub met_or_within : (map : List (List MapEdge)) (level : ℕ) (met within : List ℕ) → AreMet map level met → (n : ℕ)
    → has_leaf (met ++ within) n ≡ true → (has_leaf within n ≡ true) ⊎ IsMet map level n
met_or_within map level met within are n h =
    by (has_leaf met n) (has_leaf within n) refl refl (sym (list_any-append (λ c. covers c n) met within) ∙ h)
  where
    by : (a b : Bool) → has_leaf met n ≡ a → has_leaf within n ≡ b → (a || b) ≡ true
        → (has_leaf within n ≡ true) ⊎ IsMet map level n
    by true b ea eb t =
        let a = Any-from_list_any (λ c. covers c n) met ea in
        let own = subst (λ c. (level_of c ≡ level) × IsPartOfCell map c Met) a.3 (are a.0 a.1 a.2) in
        inr (a.1, a.4, own.0, own.1)
    by false true ea eb t = inl eb
    by false false ea eb t = cc

-- two lists of cells and their normal forms
pub are_coverings : (s : Shape) (level : ℕ) (map : List (List MapEdge)) (met within outer inner : List ℕ)
    → IsMapOf s map → MissesNone map (met ++ within) → HasNoneOutside map within → AreMet map level met
    → ((n : ℕ) → has_leaf outer n ≡ has_leaf (met ++ within) n) → ((n : ℕ) → has_leaf inner n ≡ has_leaf within n)
    → IsLocal outer → IsLocal inner → AreCoverings s level outer inner
are_coverings s level map met within outer inner is misses none are same_outer same_inner local_outer local_inner =
    record {
      map = map;
      is_map = is;
      misses_none = λ n p proper holds h. same_outer n ∙ misses n p proper holds h;
      none_outside = λ n p h. none n p (sym (same_inner n) ∙ h);
      near = λ n h. elim (met_or_within map level met within are n (sym (same_outer n) ∙ h)) [
        | inl w ↦ inl (same_inner n ∙ w)
        | inr m ↦ inr m
      ];
      outer_local = local_outer;
      inner_local = local_inner;
    }
