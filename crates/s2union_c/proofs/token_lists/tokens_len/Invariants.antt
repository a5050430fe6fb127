use Rattle.std.proofs.Common.{◌≡◌, length, take}
use Rattle.s2union_c.specs.Texts.{tokens_of}
use Rattle.s2union_c.proofs.token_lists.tokens_len.Given as goal

abbrev pub invariant-loop-k : goal.invariant-loop-k
invariant-loop-k l = l.len ≡ length (tokens_of (take l.k l.ids))
