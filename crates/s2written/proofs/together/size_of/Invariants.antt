use Rattle.std.proofs.Common.{◌≡◌, take}
use Rattle.s2written.specs.Several.{size_of_all}
use Rattle.s2written.proofs.together.size_of.Given as goal

abbrev pub invariant-loop-k : goal.invariant-loop-k
invariant-loop-k g l = l.size ≡ size_of_all (λ q. g.Q.Quadrant.work q (g.Q.Quadrant.id q)) (take l.k l.quadrants)
