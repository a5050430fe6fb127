use Rattle.std.proofs.Common.{◌≡◌, take}
use Rattle.s2written.specs.Several.{size_of_all}
use Rattle.s2written.proofs.together.TogetherRoughRegion.size.Given as goal

abbrev pub invariant-loop-k : goal.invariant-loop-k
invariant-loop-k g l = l.size ≡ size_of_all g.R.Quartered.extent (take l.k l.self.parts.now)
