use Rattle.std.proofs.Common.{All, take}
use Rattle.s2map.specs.Map.{IsMapPlace}
use Rattle.s2map.proofs.part.check_places.Given as goal

abbrev pub invariant-loop-i : goal.invariant-loop-i
invariant-loop-i l = All IsMapPlace (take l.i l.corners)
