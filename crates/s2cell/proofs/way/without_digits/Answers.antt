use Rattle.std.proofs.Common.{sym, ap, ◌/◌}
use Rattle.s2cell.proofs.Lowest.{four_pow}
use Rattle.s2cell.proofs.way.without_digits.Goals as goal

pub returns : goal.returns
returns c = ap (λ z. c.args.leaf / z) (sym (four_pow c.args.count))
