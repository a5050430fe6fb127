use Rattle.std.proofs.Common.{◌≡◌, ◌≤◌, take, map}
use Rattle.std.specs.List.{All}
use Rattle.s2cell.specs.Cell.{level_of}
use Rattle.s2draw.specs.Zoom.{seen_at}
use Rattle.s2draw.proofs.image.cells_to_draw.Given as goal

-- the cells so far, as they are seen
abbrev pub invariant-loop-cell : goal.invariant-loop-cell
invariant-loop-cell l =
    (l.list.items ≡ map (seen_at l.deepest) (take l.cell-index l.cells))
    × All (λ c. level_of c ≤ l.deepest) l.list.items
