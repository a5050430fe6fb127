use Rattle.std.proofs.Common.{◌≡◌, ◌+◌, ◌-◌, ◌<◌, ◌≤◌, take}
use Rattle.std.specs.Prelude.{slice_index}
use Rattle.s2cell.specs.Cell.{IsCell, first_leaf, size_of}
use Rattle.s2list.specs.Packed.{IsPacked}
use Rattle.s2list.proofs.whole.continued_to.Given as goal

abbrev pub invariant-loop-k : goal.invariant-loop-k
invariant-loop-k g l = record {
  from : l.start ≤ l.k;
  within : l.k ≤ l.stop;
  packed : IsPacked (take l.start (g.C.Listed.ids l.cells)) → IsPacked (take l.k (g.C.Listed.ids l.cells));
  a : 2 < l.k → l.a ≡ slice_index (g.C.Listed.ids l.cells) (l.k - 3);
  b : 1 < l.k → l.b ≡ slice_index (g.C.Listed.ids l.cells) (l.k - 2);
  c : 0 < l.k → l.c ≡ slice_index (g.C.Listed.ids l.cells) (l.k - 1);
  no_a : l.k < 3 → l.a ≡ 0;
  no_b : l.k < 2 → l.b ≡ 0;
  no_c : l.k < 1 → l.c ≡ 0;
  end : 0 < l.k → IsCell (slice_index (g.C.Listed.ids l.cells) (l.k - 1)) →
      l.end ≡ first_leaf (slice_index (g.C.Listed.ids l.cells) (l.k - 1))
      + size_of (slice_index (g.C.Listed.ids l.cells) (l.k - 1));
  no_end : l.k < 1 → l.end ≡ 0;
}
