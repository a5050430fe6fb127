use Rattle.std.proofs.Common.{◌≡◌, ℕ, ◌-◌, ◌<◌, ◌≤◌, slice_index}
use Rattle.s2union_c.proofs.unions.are_ends.Given as goal

abbrev pub invariant-loop-end : goal.invariant-loop-end
invariant-loop-end l = record {
  order : (i j : ℕ) → i ≤ j → j < l.end-index → slice_index l.ends i ≤ slice_index l.ends j;
  low : (i : ℕ) → i < l.end-index → slice_index l.ends i ≤ l.start;
  none : l.end-index ≡ 0 → l.start ≡ 0;
  last : 0 < l.end-index → l.start ≡ slice_index l.ends (l.end-index - 1);
}
