use Rattle.std.proofs.Common.{◌∙◌, ◌-◌, ◌*◌, sym, arith}
use Rattle.std.proofs.lemmas.Nat.{one_shl}
use Rattle.s2cell.proofs.Lowest.{four_pow}
use Rattle.s2cell.proofs.cut_levels.count_descendants.Goals as goal

pub returns : goal.returns
returns c = one_shl (2 * (c.args.level - c.args.own)) 64 (omega arith) ∙ sym (four_pow (c.args.level - c.args.own))
