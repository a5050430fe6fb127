use Rattle.std.proofs.Common.{◌≡◌, take, filter}
use Rattle.s2polygon.specs.Faces.{edges_on}
use Rattle.s2polygon.specs.Tests.{meets_square}
use Rattle.s2polygon.proofs.lists.edges_met_on.Given as goal

abbrev pub invariant-loop-e : goal.invariant-loop-e
invariant-loop-e l = l.met.items ≡ filter (meets_square l.q) (edges_on l.face (take l.e-index l.edges))
