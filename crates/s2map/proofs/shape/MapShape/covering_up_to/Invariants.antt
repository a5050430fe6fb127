use Rattle.std.proofs.Common.{◌+◌, ◌≤◌, length}
use Rattle.s2map.proofs.Coverings.{Topped}
use Rattle.s2map.proofs.shape.MapShape.covering_up_to.Given as goal

abbrev pub invariant-loop-face : goal.invariant-loop-face
invariant-loop-face l =
    Topped l.self l.level l.face l.met.items l.within.items × (length l.met.items + length l.within.items ≤ l.most)
