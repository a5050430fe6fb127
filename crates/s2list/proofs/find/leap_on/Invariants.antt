use Rattle.std.proofs.Common.{◌≡◌, ◌+◌, ◌-◌, ◌*◌, ◌^◌, ◌≤◌, length, min}
use Rattle.s2list.specs.Packed.{IsPacked, FirstEndBy}
use Rattle.s2list.proofs.Looking.{Leapt}
use Rattle.s2list.proofs.find.leap_on.Given as goal

abbrev pub invariant-loop-leap : goal.invariant-loop-leap
invariant-loop-leap g l = record {
  from : l.start + 2 ≤ l.base;
  within : l.base ≤ length (g.C.Listed.ids l.cells);
  leap : l.leap ≡ min (3 * (l.base - l.start)) (2 ^ 64 - 1);
  ended : IsPacked (g.C.Listed.ids l.cells) → FirstEndBy (g.C.Listed.ids l.cells) (l.start + 2) l.lo →
      FirstEndBy (g.C.Listed.ids l.cells) l.base l.lo;
  leapt : Leapt (g.K.Count.looks l.initial.count) (g.K.Count.looks l.count) (l.base - l.start);
  least : min (g.K.Count.looks l.initial.count) g.K.Count.most ≤ g.K.Count.looks l.count;
}

abbrev pub decreases-loop-leap : goal.decreases-loop-leap
decreases-loop-leap g l = length (g.C.Listed.ids l.cells) - l.base
