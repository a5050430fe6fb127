use Rattle.std.proofs.Common.{ℕ, ◌+◌, ◌-◌, ◌^◌, ◌<◌, ◌≤◌, min}
use Rattle.s2list.proofs.Looking.{Halved}
use Rattle.s2list.proofs.Narrowing.{Left}
use Rattle.s2list.proofs.find.among_few.Given as goal

abbrev pub invariant-loop-size : goal.invariant-loop-size
invariant-loop-size g l = record {
  left : Left (g.C.Listed.ids l.cells) l.lo l.mark l.start l.end l.base l.size l.below;
  halved : (k : ℕ) → l.end - l.start < 2 ^ k → Halved l.size (g.K.Count.looks l.initial.count)
      (g.K.Count.looks l.count) k;
  least : min (g.K.Count.looks l.initial.count) g.K.Count.most ≤ g.K.Count.looks l.count;
  some : l.size < l.end - l.start →
      min (g.K.Count.looks l.initial.count + 1) g.K.Count.most ≤ g.K.Count.looks l.count;
}

abbrev pub decreases-loop-size : goal.decreases-loop-size
decreases-loop-size g l = l.size
