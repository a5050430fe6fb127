use Rattle.std.proofs.Common.{inr, refl, arith}
use Rattle.s2union_c.proofs.files.put_numbers.Goals as goal

pub returns-then-n-out : goal.returns-then-n-out
returns-then-n-out c =
    let n = c.len-n.ensures in
    inr (refl, record { len_is = n; short = omega arith; same = refl })
