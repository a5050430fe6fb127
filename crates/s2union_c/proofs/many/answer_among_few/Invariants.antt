use Rattle.std.proofs.Common.{◌≡◌, ◌<◌, ◌≤◌, ℕ, length, drop}
use Rattle.std.specs.Prelude.{slice_index}
use Rattle.s2list.specs.Gaps.{IsGap}
use Rattle.s2list.specs.Union.{IsLocal}
use Rattle.s2list.specs.Working.Walk.{Holds}
use Rattle.s2union_c.specs.Status.{IsBit}
use Rattle.s2union_c.proofs.many.answer_among_few.Given as goal

abbrev pub invariant-loop-i : goal.invariant-loop-i
invariant-loop-i g l = record {
  so_far : IsLocal (g.C.Listed.ids l.ids) → ((j : ℕ) → j < l.k →
      IsBit (slice_index l.fn.answers j) (Holds l.question (g.C.Listed.ids l.ids) (slice_index l.cells j))) →
      (j : ℕ) → j < l.i →
      IsBit (slice_index l.answers j) (Holds l.question (g.C.Listed.ids l.ids) (slice_index l.cells j));
  bits : ((j : ℕ) → j < l.k → slice_index l.fn.answers j ≤ 1) → (j : ℕ) → j < l.i → slice_index l.answers j ≤ 1;
  rest : drop (length l.cells) l.answers ≡ drop (length l.cells) l.fn.answers;
  length : length l.answers ≡ length l.fn.answers;
  from : l.k ≤ l.i;
  within : l.i ≤ l.stop;
  gap : IsGap (g.C.Listed.ids l.ids) l.gap;
}
