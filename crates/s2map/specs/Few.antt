-- Cells that edges may go through, and the work that they take.
use Rattle.std.specs.Prelude.{◌≡◌, ℕ, ◌+◌, ◌-◌, ◌^◌, List, filter, flat_map, length, min}
use Rattle.std.specs.List.{sum_by}
use Rattle.s2map.specs.Boxes.{meets, part_of}
use Rattle.s2map.specs.Cells.{IsBoxOf}
use Rattle.s2map.specs.Map.{on_turns}
use Rattle.s2map.specs.declared.TheConstants.{BOX_WORK}
use Rattle.s2map.specs.declared.place.MapBox.{MapBox}
use Rattle.s2map.specs.declared.place.MapEdge.{MapEdge}
use Rattle.s2map.specs.declared.shape.BoxPart.TheVariants.{Met}

-- how many edges the shape has, up to the greatest number of 64 bits
abbrev pub edge_count : List (List MapEdge) → ℕ
edge_count shape = min (sum_by length shape) (2 ^ 64 - 1)

-- how many edges meet the box, each on each turn on which it does
abbrev pub count_met : List (List MapEdge) → MapBox → ℕ
count_met shape q = sum_by (λ es. length (filter (meets q) (flat_map on_turns es))) shape

-- the work of looking into a cell with this box: these edges, and the boxes of its children, up to the same number
abbrev pub work_met : List (List MapEdge) → MapBox → ℕ
work_met shape q = min (count_met shape q + BOX_WORK) (2 ^ 64 - 1)

-- an edge meets a box of the cell `c`, which no part has whole inside, and the cell takes the work `n`
pub record IsMetCell (shape : List (List MapEdge)) (c n : ℕ) : Type 0 where
  pub box : MapBox
  pub of : IsBoxOf c box
  pub met : part_of shape box ≡ Met
  pub work : n ≡ work_met shape box
