use Rattle.std.proofs.Common.{◌≡◌, ◌-◌, ◌*◌, ◌%◌, ◌^◌, ◌≤◌, lit<, arith}
use Rattle.std.proofs.Math.Nat.{pow-le-pow_right}
use Rattle.std.proofs.lemmas.Nat.{one_shl}
use Rattle.s2cover.proofs.rounding.side_of.Goals as goal

pub returns-clause-most : goal.returns-clause-most
returns-clause-most c =
    let m : 2 ^ (30 - c.args.level) ≤ 2 ^ 30 = pow-le-pow_right {n = 2} (lit< tt) {i = 30 - c.args.level} {j = 30}
    (omega arith) in
    let e : 1 * 2 ^ (30 - c.args.level) % 2 ^ 32 ≡ 2 ^ (30 - c.args.level) =
    one_shl (30 - c.args.level) 32 (omega arith) in
    omega arith
