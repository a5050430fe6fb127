use Rattle.std.proofs.Common.{◌≡◌, ◌≤◌, ◌+◌, ◌-◌, length}
use Rattle.s2list.specs.Union.{IsLocal}
use Rattle.s2list.proofs.Intersecting.{both}
use Rattle.s2list.proofs.Intersections.{IntersectionIn}
use Rattle.s2list.proofs.intersection.write_intersection_by.Given as goal

abbrev pub invariant-loop-i : goal.invariant-loop-i
invariant-loop-i g l = record {
  in_x : l.i ≤ length (g.X.Listed.ids l.xs);
  in_y : l.j ≤ length (g.Y.Listed.ids l.ys);
  place : g.W.Output.place l.out ≡ g.W.Output.place l.fn.out;
  rest : g.W.Output.rest l.fn.out l.fn.out 0 → g.W.Output.rest l.fn.out l.out l.n;
  so_far : IsLocal (g.X.Listed.ids l.xs) → IsLocal (g.Y.Listed.ids l.ys)
      → IntersectionIn (both (g.X.Listed.ids l.xs) (g.Y.Listed.ids l.ys)) (g.X.Listed.ids l.xs) (g.Y.Listed.ids l.ys)
      (λ list. g.W.Output.holds list l.fn.out l.out l.n) l.i l.j;
}

abbrev pub decreases-loop-i : goal.decreases-loop-i
decreases-loop-i g l = (length (g.X.Listed.ids l.xs) - l.i) + (length (g.Y.Listed.ids l.ys) - l.j)
