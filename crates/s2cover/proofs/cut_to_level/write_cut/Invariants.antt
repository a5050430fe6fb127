use Rattle.std.proofs.Common.{◌≡◌, ◌<◌, ◌≤◌, ◌-◌, get_or, length}
use Rattle.s2list.specs.Union.{IsLocal}
use Rattle.s2cover.specs.Working.Cut.{cells_cut, cut_at}
use Rattle.s2cover.proofs.Rows.{Rows}
use Rattle.s2cover.proofs.cut_to_level.write_cut.Given as goal

abbrev pub invariant-loop-i : goal.invariant-loop-i
invariant-loop-i g l = record {
  within : l.i ≤ length (g.C.Listed.ids l.cells);
  place : g.W.Output.place l.out ≡ g.W.Output.place l.fn.out;
  rest : g.W.Output.rest l.fn.out l.fn.out 0 → g.W.Output.rest l.fn.out l.out l.n;
  so_far : IsLocal (g.C.Listed.ids l.cells) →
      Rows (cells_cut l.level (g.C.Listed.ids l.cells)) (λ list. g.W.Output.holds list l.fn.out l.out l.n) l.i;
  first : IsLocal (g.C.Listed.ids l.cells) → l.i < length (g.C.Listed.ids l.cells) →
      l.first ≡ cut_at l.level (get_or (g.C.Listed.ids l.cells) l.i 0);
}

abbrev pub decreases-loop-i : goal.decreases-loop-i
decreases-loop-i g l = length (g.C.Listed.ids l.cells) - l.i
