use Rattle.std.proofs.Common.{◌≡◌, ◌++◌, take}
use Rattle.std.specs.List.{flat_map}
use Rattle.s2draw.specs.Overlay.{outline}
use Rattle.s2draw.proofs.overlay.put_outlines.Given as goal

-- the cells so far are there
abbrev pub invariant-loop-cell : goal.invariant-loop-cell
invariant-loop-cell l = l.text.items ≡ l.initial.text.items ++ flat_map outline (take l.cell-index l.cells)
