-- Coverings of a shape that was written.
use Rattle.std.specs.Prelude.{◌≡◌, ◌⊎◌, ◌≤◌, ℕ, List, length, max, true}
use Rattle.s2cell.specs.Cell.{covers, level_of}
use Rattle.s2cover.specs.Coverings.{NoneDeeper}
use Rattle.s2cover.specs.Rough.{ComesNearInner, ComesNearOuter}
use Rattle.s2list.specs.Union.{IsLocal, has_leaf}
use Rattle.s2map.specs.Cells.{HoldsPlace, IsPartOfCell, IsProperPlace, LeafInside, LeafOutside}
use Rattle.s2map.specs.Few.{IsMetCell, edge_count}
use Rattle.s2map.specs.Map.{inside}
use Rattle.s2map.specs.declared.place.MapEdge.{MapEdge}
use Rattle.s2map.specs.declared.place.Place.{Place}
use Rattle.s2map.specs.declared.shape.BoxPart.TheVariants.{Met}
use Rattle.s2shape.specs.Reading.{Shape}
use Rattle.s2written.specs.Maps.{IsMapOf}

-- no place inside is missing: the cells `u` have each leaf that holds one
abbrev pub MissesNone : List (List MapEdge) → List ℕ → Type 0
MissesNone map u =
    (n : ℕ) (p : Place) → IsProperPlace p → HoldsPlace n p → inside map p ≡ true → has_leaf u n ≡ true

-- no place outside is in the cells `u`: all places that their leaves hold lie inside
abbrev pub HasNoneOutside : List (List MapEdge) → List ℕ → Type 0
HasNoneOutside map u =
    (n : ℕ) (p : Place) → has_leaf u n ≡ true → IsProperPlace p → HoldsPlace n p → inside map p ≡ true

-- the leaf `n` lies in a cell of the level that an edge meets
abbrev pub IsMet : List (List MapEdge) → ℕ → ℕ → Type 0
IsMet map level n = (c : ℕ) × (covers c n ≡ true) × (level_of c ≡ level) × IsPartOfCell map c Met

-- `outer` is an outer covering of the shape down to the level, and `inner` an inner one, both normalized. Each leaf
-- that only the outer one has lies in a cell of the level that an edge meets
pub record AreCoverings (s : Shape) (level : ℕ) (outer inner : List ℕ) : Type 0 where
  pub map : List (List MapEdge)
  pub is_map : IsMapOf s map
  pub misses_none : MissesNone map outer
  pub none_outside : HasNoneOutside map inner
  pub near : (n : ℕ) → has_leaf outer n ≡ true → (has_leaf inner n ≡ true) ⊎ IsMet map level n
  pub outer_local : IsLocal outer
  pub inner_local : IsLocal inner

-- they are coverings of the shape of at most `most` cells each, the outer one of 6 if that is more, none of them deeper
-- than the level `deepest`, and come near
pub record AreFewCoverings (s : Shape) (deepest most : ℕ) (outer inner : List ℕ) : Type 0 where
  pub map : List (List MapEdge)
  pub is_map : IsMapOf s map
  pub misses_none : MissesNone map outer
  pub none_outside : HasNoneOutside map inner
  pub outer_near : ComesNearOuter (LeafOutside map) (LeafInside map) (IsMetCell map) (edge_count map) deepest most outer
  pub inner_near : ComesNearInner (LeafOutside map) (IsMetCell map) (edge_count map) deepest most inner
  pub outer_few : length outer ≤ max most 6
  pub inner_few : length inner ≤ most
  pub outer_depth : NoneDeeper deepest outer
  pub inner_depth : NoneDeeper deepest inner
  pub outer_local : IsLocal outer
  pub inner_local : IsLocal inner
