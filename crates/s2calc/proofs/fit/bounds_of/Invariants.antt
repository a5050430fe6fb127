use Rattle.std.proofs.Common.{◌≡◌, drop}
use Rattle.s2draw.specs.Zoom.{IsOnFaces, bounds_from, nowhere}
use Rattle.s2calc.proofs.fit.bounds_of.Given as goal

-- the bounds have the unions so far
abbrev pub invariant-loop-one : goal.invariant-loop-one
invariant-loop-one l = (bounds_from nowhere l.unions ≡ bounds_from l.bounds (drop l.one-index l.unions))
    × IsOnFaces l.bounds
