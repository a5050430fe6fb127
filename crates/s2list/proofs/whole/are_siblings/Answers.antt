use Rattle.std.proofs.Common.{arith}
use Rattle.std.proofs.lemmas.Bool.{false≢true}
use Rattle.s2cell.proofs.Calls.{IsCell-child_of}
use Rattle.s2list.proofs.whole.are_siblings.Goals as goal

pub returns-in_default : goal.returns-in_default
returns-in_default c = (
  λ e. absurd (false≢true e),
  λ (p, f). absurd (c.in_default.ensures (IsCell-child_of p 3 c.args.d f.cell f.inner (omega arith) f.three)),
)
