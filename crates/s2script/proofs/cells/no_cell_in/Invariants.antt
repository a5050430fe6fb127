use Rattle.std.proofs.Common.{◌≡◌, length}
use Rattle.s2script.specs.CellList.{no_cell_in}
use Rattle.s2script.proofs.cells.no_cell_in.Given as goal

-- the words so far name cells
abbrev pub invariant-loop-word : goal.invariant-loop-word
invariant-loop-word l = no_cell_in l.words ≡ no_cell_in l.fn.words

abbrev pub decreases-loop-word : goal.decreases-loop-word
decreases-loop-word l = length l.words
