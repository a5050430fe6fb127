use Rattle.std.proofs.Common.{take}
use Rattle.s2written.specs.Maps.{ArePlacesOf}
use Rattle.s2written.proofs.map.places_of.Given as goal

abbrev pub invariant-loop-i : goal.invariant-loop-i
invariant-loop-i l = ArePlacesOf (take l.i l.shape.positions.items) l.corners.items
