use Rattle.std.proofs.Common.{◌≡◌, ◌++◌, take}
use Rattle.std.specs.List.{flat_map}
use Rattle.s2draw.specs.Zoom.{piece}
use Rattle.s2draw.proofs.zoom.put_pieces.Given as goal

-- the cells so far are there
abbrev pub invariant-loop-cell : goal.invariant-loop-cell
invariant-loop-cell l = l.text.items ≡ l.initial.text.items ++ flat_map (piece l.part) (take l.cell-index l.cells)
