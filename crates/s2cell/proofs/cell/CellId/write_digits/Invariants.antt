use Rattle.std.proofs.Common.{◌*◌}
use Rattle.s2cell.proofs.Tokens.{TokenSoFar}
use Rattle.s2cell.proofs.cell.CellId.write_digits.Given as goal

abbrev pub invariant-loop-k : goal.invariant-loop-k
invariant-loop-k l = TokenSoFar l.fn.self (2 * l.k) l.digits
