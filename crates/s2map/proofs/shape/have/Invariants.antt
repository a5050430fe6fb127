use Rattle.std.proofs.Common.{◌≡◌, false, take}
use Rattle.s2map.specs.Map.{inside}
use Rattle.s2map.proofs.shape.have.Given as goal

abbrev pub invariant-loop-part : goal.invariant-loop-part
invariant-loop-part l = inside (take l.part-index l.parts) l.p ≡ false
