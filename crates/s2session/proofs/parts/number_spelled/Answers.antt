use Rattle.std.proofs.Common.{arith}
use Rattle.s2session.proofs.TakingCells.{number_spelled}
use Rattle.s2session.proofs.parts.number_spelled.Goals as goal

pub returns : goal.returns
returns c =
    number_spelled c.args.bytes.now c.number.result c.requires (λ i. omega (arith, c.type_inv.bytes i)) c.number.ensures
