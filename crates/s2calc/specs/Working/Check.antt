-- What only private contracts need, beside Check.antt, which has what public contracts need.
use Rattle.std.specs.Prelude.{ℕ, Result, Ok, Err}
use Rattle.s2calc.specs.declared.refusal.Refusal.{Refusal}
use Rattle.s2calc.specs.Replies.{Reply, Says, Refuses}
use Rattle.s2calc.specs.Texts.{count_line}

-- the reply with these numbers of cells and leaves, or the refusal
abbrev pub check_reply : Result (ℕ × ℕ) Refusal → Reply
check_reply (Ok counts) = Says (count_line counts.0 counts.1)
check_reply (Err refusal) = Refuses refusal
