use Rattle.std.proofs.Common.{All, take}
use Rattle.s2written.specs.Maps.{IsPolygon}
use Rattle.s2written.proofs.map.first_other.Given as goal

abbrev pub invariant-loop-k : goal.invariant-loop-k
invariant-loop-k l = All IsPolygon (take l.k l.parts)
