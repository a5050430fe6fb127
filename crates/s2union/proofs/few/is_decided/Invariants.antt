use Rattle.std.proofs.Common.{◌-◌, ◌*◌, ◌<◌, ◌≤◌, length, min}
use Rattle.s2union.specs.Working.Sets.{OpenBetween}
use Rattle.s2union.proofs.few.is_decided.Given as goal

abbrev pub invariant-loop-j : goal.invariant-loop-j
invariant-loop-j g l = record {
  in_y : l.j ≤ length (g.C.Listed.ids l.ys);
  left_open : OpenBetween l.question (g.C.Listed.ids l.xs) (g.C.Listed.ids l.ys) 0 l.j;
  few : g.K.Count.looks l.count ≤ 250 * l.j;
  some : 0 < l.j → min 2 g.K.Count.most ≤ g.K.Count.looks l.count;
}

abbrev pub decreases-loop-j : goal.decreases-loop-j
decreases-loop-j g l = length (g.C.Listed.ids l.ys) - l.j
