use Rattle.std.proofs.Common.{◌≡◌, ◌-◌, ◌≤◌, length, drop}
use Rattle.s2union_c.specs.Texts.{words_of_text}
use Rattle.s2union_c.proofs.token_lists.next_word.Given as goal

abbrev pub invariant-loop-start : goal.invariant-loop-start
invariant-loop-start l = record {
  order : l.from ≤ l.start;
  within : l.start ≤ length l.text;
  same : words_of_text (drop l.start l.text) ≡ words_of_text (drop l.from l.text);
}

abbrev pub decreases-loop-start : goal.decreases-loop-start
decreases-loop-start l = length l.text - l.start
