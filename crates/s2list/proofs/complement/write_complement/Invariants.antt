use Rattle.std.proofs.Common.{◌≡◌, ◌<◌, ◌≤◌, length}
use Rattle.std.specs.List.{slice_index}
use Rattle.s2cell.specs.Cell.{first_leaf}
use Rattle.s2cell.specs.declared.TheConstants.{LEAVES}
use Rattle.s2list.specs.Union.{IsLocal, has_leaf}
use Rattle.s2list.specs.Packed.{FirstEndBy}
use Rattle.s2list.specs.Sets.{complement_of}
use Rattle.s2list.specs.Working.Piles.{PileIn}
use Rattle.s2list.proofs.complement.write_complement.Given as goal

abbrev pub invariant-loop-i : goal.invariant-loop-i
invariant-loop-i g l = record {
  place : g.W.Output.place l.out ≡ g.W.Output.place l.fn.out;
  rest : g.W.Output.rest l.fn.out l.fn.out 0 → g.W.Output.rest l.fn.out l.out l.pile.n;
  ended : IsLocal (g.X.Listed.ids l.xs) → FirstEndBy (g.X.Listed.ids l.xs) l.i l.done;
  most : IsLocal (g.X.Listed.ids l.xs) → l.done ≤ LEAVES;
  start : IsLocal (g.X.Listed.ids l.xs) → l.i < length (g.X.Listed.ids l.xs)
      → l.done ≤ first_leaf (slice_index (g.X.Listed.ids l.xs) l.i);
  so_far : IsLocal (g.X.Listed.ids l.xs)
      → PileIn (complement_of (has_leaf (g.X.Listed.ids l.xs))) (λ n list. g.W.Output.holds list l.fn.out l.out n)
      l.pile l.done;
}
