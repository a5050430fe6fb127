use Rattle.std.proofs.Common.{ℕ, ◌+◌, ◌-◌, ◌^◌, ◌<◌, ◌≤◌, min}
use Rattle.s2list.specs.Packed.{IsPacked}
use Rattle.s2list.specs.Working.Search.{IsFrom}
use Rattle.s2list.proofs.Looking.{Halved}
use Rattle.s2list.proofs.find.narrow_until.Given as goal

abbrev pub invariant-loop-last : goal.invariant-loop-last
invariant-loop-last g l = record {
  from : l.start ≤ l.first;
  order : l.first ≤ l.last;
  to : l.last ≤ l.end;
  found : IsPacked (g.C.Listed.ids l.cells) → IsFrom (g.C.Listed.ids l.cells) l.lo l.start l.end
      → IsFrom (g.C.Listed.ids l.cells) l.lo l.first l.last;
  halved : (k : ℕ) → l.end - l.start < 2 ^ k → Halved (l.last - l.first) (g.K.Count.looks l.initial.count)
      (g.K.Count.looks l.count) k;
  least : min (g.K.Count.looks l.initial.count) g.K.Count.most ≤ g.K.Count.looks l.count;
  some : l.last - l.first < l.end - l.start →
      min (g.K.Count.looks l.initial.count + 1) g.K.Count.most ≤ g.K.Count.looks l.count;
}

abbrev pub decreases-loop-last : goal.decreases-loop-last
decreases-loop-last g l = l.last - l.first
