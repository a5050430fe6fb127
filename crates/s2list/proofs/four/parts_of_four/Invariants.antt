use Rattle.std.proofs.Common.{ℕ, ◌+◌, ◌^◌, ◌<◌, ◌≤◌, length, min}
use Rattle.s2list.specs.Packed.{IsPacked}
use Rattle.s2list.specs.Search.{Brackets}
use Rattle.s2list.proofs.Looking.{Quartered}
use Rattle.s2list.proofs.four.parts_of_four.Given as goal

abbrev pub invariant-loop-size : goal.invariant-loop-size
invariant-loop-size g l = record {
  fits : length (g.C.Listed.ids l.cells) < 2 ^ 64;
  first_within : l.first + l.size ≤ length (g.C.Listed.ids l.cells);
  second_within : l.second + l.size ≤ length (g.C.Listed.ids l.cells);
  third_within : l.third + l.size ≤ length (g.C.Listed.ids l.cells);
  fourth_within : l.fourth + l.size ≤ length (g.C.Listed.ids l.cells);
  first : IsPacked (g.C.Listed.ids l.cells) → Brackets (g.C.Listed.ids l.cells) l.a l.first (l.first + l.size);
  second : IsPacked (g.C.Listed.ids l.cells) → Brackets (g.C.Listed.ids l.cells) l.b l.second (l.second + l.size);
  third : IsPacked (g.C.Listed.ids l.cells) → Brackets (g.C.Listed.ids l.cells) l.c l.third (l.third + l.size);
  fourth : IsPacked (g.C.Listed.ids l.cells) → Brackets (g.C.Listed.ids l.cells) l.d l.fourth (l.fourth + l.size);
  quartered : (k : ℕ) → length (g.C.Listed.ids l.cells) ≤ 2 ^ k → Quartered 12 l.size (g.K.Count.looks l.initial.count)
      (g.K.Count.looks l.count) k;
  least : min (g.K.Count.looks l.initial.count) g.K.Count.most ≤ g.K.Count.looks l.count;
}

abbrev pub decreases-loop-size : goal.decreases-loop-size
decreases-loop-size g l = l.size
