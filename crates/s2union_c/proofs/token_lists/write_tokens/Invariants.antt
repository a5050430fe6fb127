use Rattle.std.proofs.Common.{◌≡◌, length, take}
use Rattle.s2union_c.specs.Texts.{tokens_of}
use Rattle.s2union_c.proofs.token_lists.write_tokens.Given as goal

abbrev pub invariant-loop-k : goal.invariant-loop-k
invariant-loop-k l = record {
  at_is : l.at ≡ length (tokens_of (take l.k l.ids));
  front : take l.at l.text ≡ tokens_of (take l.k l.ids);
  room : length l.text ≡ length l.fn.text;
}
