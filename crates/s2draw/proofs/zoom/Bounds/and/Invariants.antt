use Rattle.std.proofs.Common.{◌≡◌, drop}
use Rattle.s2draw.specs.Zoom.{IsOnFaces, all_grown}
use Rattle.s2draw.proofs.zoom.Bounds.and.Given as goal

-- the bounds have the cells so far
abbrev pub invariant-loop-cell : goal.invariant-loop-cell
invariant-loop-cell l = (all_grown l.fn.self l.cells ≡ all_grown l.bounds (drop l.cell-index l.cells))
    × IsOnFaces l.bounds
