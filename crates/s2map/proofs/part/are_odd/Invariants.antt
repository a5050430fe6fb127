use Rattle.std.proofs.Common.{◌≡◌, take}
use Rattle.s2map.specs.Map.{inside_part}
use Rattle.s2map.proofs.part.are_odd.Given as goal

abbrev pub invariant-loop-e : goal.invariant-loop-e
invariant-loop-e l = l.odd ≡ inside_part l.p (take l.e-index l.edges)
