-- A covering on its way.
use Rattle.std.specs.Prelude.{◌≡◌, ℕ, ◌⊎◌, List, true}
use Rattle.s2list.specs.Union.{has_leaf}
use Rattle.s2map.specs.Cells.{AreMet, LeafInside, LeafOutside}
use Rattle.s2map.specs.declared.place.MapEdge.{MapEdge}

-- the cells `met` are of level `k`, and an edge meets a box of each; the leaves of the cells `within` lie inside
pub record IsSorted (shape : List (List MapEdge)) (k : ℕ) (met within : List ℕ) : Type 0 where
  pub are_met : AreMet shape k met
  pub are_inside : (n : ℕ) → has_leaf within n ≡ true → LeafInside shape n

-- the cells `v` have the leaves of the cells `u`
pub record Keeps (u v : List ℕ) : Type 0 where
  pub all : (n : ℕ) → has_leaf u n ≡ true → has_leaf v n ≡ true

-- one of the lists has the leaf, or it lies outside
abbrev pub IsFound : List (List MapEdge) → List ℕ → List ℕ → ℕ → Type 0
IsFound shape met within n = (has_leaf met n ≡ true) ⊎ (has_leaf within n ≡ true) ⊎ LeafOutside shape n
