-- How much work the walks over cells take, level by level.
use Rattle.std.specs.Prelude.{ℕ, ◌+◌, ◌*◌, ◌<◌, ◌≤◌, List, [], ◌∷◌, length}
use Rattle.s2map.specs.Cells.{AreMet}
use Rattle.s2map.specs.declared.place.MapEdge.{MapEdge}
use Rattle.s2shape.specs.Reading.{Shape}
use Rattle.s2written.specs.Maps.{IsMapOf}
use Rattle.s2written.specs.declared.TheConstants.{CELL_WORK}

-- lists of cells that edges meet, of one level after another: the last list is of the faces, the first of the deepest
abbrev pub AreLevels : List (List MapEdge) → List (List ℕ) → Type 0
AreLevels map [] = Unit {0}
AreLevels map (u ∷ us) = AreMet map (length us) u × AreLevels map us

-- how many cells the next walk asks: the faces, and the children of each cell that edges meet
abbrev pub asked_next : List (List ℕ) → ℕ
asked_next [] = 6
asked_next (u ∷ us) = asked_next us + 4 * length u

-- how many cells the walks so far and the next one ask
abbrev pub asked_by_all : List (List ℕ) → ℕ
asked_by_all [] = 6
asked_by_all (u ∷ us) = asked_by_all us + asked_next (u ∷ us)

-- the walks down to the level would take more than `work`: for each cell that is asked one comparison with each edge,
-- of which there are as many as positions, and CELL_WORK for its box
pub record TakesMore (map : List (List MapEdge)) (positions level work : ℕ) : Type 0 where
  pub met : List (List ℕ)
  pub levels : AreLevels map met
  pub above : length met ≤ level
  pub much : work < (positions + CELL_WORK) * asked_by_all met

-- so would those for a shape
pub record IsTooMuch (level work : ℕ) (s : Shape) : Type 0 where
  pub map : List (List MapEdge)
  pub is_map : IsMapOf s map
  pub more : TakesMore map (length s.positions) level work
