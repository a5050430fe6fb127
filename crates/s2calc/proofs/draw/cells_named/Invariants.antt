use Rattle.std.proofs.Common.{◌≡◌, take, map}
use Rattle.std.specs.Prelude.{string_bytes}
use Rattle.s2script.specs.CellList.{cells_of}
use Rattle.s2calc.proofs.draw.cells_named.Given as goal

-- the cells of the words so far
abbrev pub invariant-loop-word : goal.invariant-loop-word
invariant-loop-word l = l.cells.items ≡ cells_of (map string_bytes (take l.word-index l.words))
