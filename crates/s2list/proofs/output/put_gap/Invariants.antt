use Rattle.std.proofs.Common.{◌≡◌, ℕ, ◌-◌, ◌<◌, ◌≤◌, List}
use Rattle.s2cell.specs.declared.TheConstants.{LEAVES}
use Rattle.s2list.proofs.Tiling.{Tiling}
use Rattle.s2list.proofs.output.put_gap.Given as goal

abbrev pub invariant-loop-first : goal.invariant-loop-first
invariant-loop-first g l = record {
  place : g.W.Output.place l.out ≡ g.W.Output.place l.fn.out;
  rest : (old : g.row.W.Denot) → g.W.Output.rest old l.fn.out l.n → g.W.Output.rest old l.out l.count;
  tiled : (l.lo < l.hi → l.hi ≤ LEAVES) → (list : List ℕ) (old : g.row.W.Denot) → g.W.Output.holds list old l.fn.out l.n
      → (longer : List ℕ) × Tiling list longer l.lo l.hi l.first × g.W.Output.holds longer old l.out l.count;
}

abbrev pub decreases-loop-first : goal.decreases-loop-first
decreases-loop-first g l = l.end - l.first
