use Rattle.std.proofs.Common.{◌-◌, ◌≡◌, ◌+◌, ◌≤◌, length}
use Rattle.s2list.specs.Union.{IsLocal, has_leaf}
use Rattle.s2list.specs.Sets.{symmetric_difference_of}
use Rattle.s2list.specs.Working.Piles.{Along}
use Rattle.s2list.proofs.symmetric_difference.write_symmetric_difference.Given as goal

abbrev pub invariant-loop-i : goal.invariant-loop-i
invariant-loop-i g l = record {
  in_x : l.i ≤ length (g.X.Listed.ids l.xs);
  in_y : l.j ≤ length (g.Y.Listed.ids l.ys);
  place : g.W.Output.place l.out ≡ g.W.Output.place l.fn.out;
  rest : g.W.Output.rest l.fn.out l.fn.out 0 → g.W.Output.rest l.fn.out l.out l.pile.n;
  so_far : IsLocal (g.X.Listed.ids l.xs) → IsLocal (g.Y.Listed.ids l.ys)
      → Along (symmetric_difference_of (has_leaf (g.X.Listed.ids l.xs)) (has_leaf (g.Y.Listed.ids l.ys)))
      (λ n list. g.W.Output.holds list l.fn.out l.out n) (g.X.Listed.ids l.xs) (g.Y.Listed.ids l.ys) l.i l.j l.pile
      l.done;
}

abbrev pub decreases-loop-i : goal.decreases-loop-i
decreases-loop-i g l = (length (g.X.Listed.ids l.xs) - l.i) + (length (g.Y.Listed.ids l.ys) - l.j)
