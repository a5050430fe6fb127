use Rattle.std.proofs.Common.{◌≡◌, false, take}
use Rattle.s2map.specs.Boxes.{met_by}
use Rattle.s2map.proofs.part.meet.Given as goal

abbrev pub invariant-loop-e : goal.invariant-loop-e
invariant-loop-e l = met_by l.q (take l.e-index l.edges) ≡ false
