use Rattle.std.proofs.Common.{◌≡◌, ℕ, ◌+◌, ◌-◌, ◌<◌, ◌≤◌, length, min, false}
use Rattle.std.specs.Prelude.{slice_index}
use Rattle.s2cell.specs.Cell.{first_leaf}
use Rattle.s2list.specs.Union.{IsLocal}
use Rattle.s2list.specs.Packed.{EndsAfter, FirstEndBy}
use Rattle.s2list.specs.Working.Walk.{Decides, LeavesOpen, Lacks}
use Rattle.s2list.proofs.Looking.{Walked}
use Rattle.s2list.proofs.walk.is_decided.Given as goal

abbrev pub invariant-loop-j : goal.invariant-loop-j
invariant-loop-j g l = record {
  in_x : l.i ≤ length (g.X.Listed.ids l.xs);
  in_y : l.j ≤ length (g.Y.Listed.ids l.ys);
  ended : IsLocal (g.X.Listed.ids l.xs) → IsLocal (g.Y.Listed.ids l.ys) → l.j < length (g.Y.Listed.ids l.ys)
      → FirstEndBy (g.X.Listed.ids l.xs) l.i (first_leaf (slice_index (g.Y.Listed.ids l.ys) l.j));
  left_open : IsLocal (g.X.Listed.ids l.xs) → IsLocal (g.Y.Listed.ids l.ys) → (k : ℕ) → k < l.j
      → LeavesOpen l.question (g.X.Listed.ids l.xs) (slice_index (g.Y.Listed.ids l.ys) k);
  walked : IsLocal (g.X.Listed.ids l.xs) → IsLocal (g.Y.Listed.ids l.ys) →
      Walked (λ k. Decides l.question (g.X.Listed.ids l.xs) (slice_index (g.Y.Listed.ids l.ys) k))
      (g.X.Listed.ids l.xs) (g.Y.Listed.ids l.ys) (g.K.Count.looks l.count - g.K.Count.looks l.fn.count) l.i l.j;
  after : IsLocal (g.X.Listed.ids l.xs) → IsLocal (g.Y.Listed.ids l.ys) → Lacks l.question ≡ false → 0 < l.j
      → EndsAfter (g.Y.Listed.ids l.ys) l.j (first_leaf (slice_index (g.X.Listed.ids l.xs) l.i));
  least : min (g.K.Count.looks l.fn.count) g.K.Count.most ≤ g.K.Count.looks l.count;
  some : 0 < l.i + l.j → min (g.K.Count.looks l.fn.count + 2) g.K.Count.most ≤ g.K.Count.looks l.count;
}

abbrev pub decreases-loop-j : goal.decreases-loop-j
decreases-loop-j g l = length (g.Y.Listed.ids l.ys) - l.j
