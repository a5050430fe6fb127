use Rattle.std.proofs.Common.{◌≡◌, ◌-◌, ◌<◌, ◌≤◌, ℕ, length, drop}
use Rattle.std.specs.Prelude.{slice_index}
use Rattle.s2list.specs.Union.{IsLocal}
use Rattle.s2list.specs.Gaps.{IsGap}
use Rattle.s2list.specs.Working.Walk.{Holds}
use Rattle.s2union_c.specs.Status.{IsBit}
use Rattle.s2union_c.proofs.many.answer_each.Given as goal

abbrev pub invariant-loop-k : goal.invariant-loop-k
invariant-loop-k g l = record {
  so_far : IsLocal (g.C.Listed.ids l.ids) → (i : ℕ) → i < l.k →
      IsBit (slice_index l.answers i) (Holds l.question (g.C.Listed.ids l.ids) (slice_index l.cells i));
  bits : (i : ℕ) → i < l.k → slice_index l.answers i ≤ 1;
  rest : drop (length l.cells) l.answers ≡ drop (length l.cells) l.fn.answers;
  room : length l.cells ≤ length l.answers;
  within : l.k ≤ length l.cells;
  gap : IsGap (g.C.Listed.ids l.ids) l.gap;
}

abbrev pub decreases-loop-k : goal.decreases-loop-k
decreases-loop-k g l = length l.cells - l.k
