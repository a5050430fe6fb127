use Rattle.s2cell.specs.Cell.{level_of}
use Rattle.s2cover.proofs.placing.+placed_cell.Given as goal

abbrev pub decreases-placed_cell : goal.decreases-placed_cell
decreases-placed_cell l = level_of l.cell
