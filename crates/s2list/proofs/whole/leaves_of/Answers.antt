use Rattle.std.proofs.Common.{rules}
use Rattle.s2cell.proofs.Calls.{size_bits}
use Rattle.s2list.proofs.whole.leaves_of.Goals as goal

pub returns : goal.returns
returns c own = size_bits _ _ own (search rules) c.wrapping_neg.ensures
