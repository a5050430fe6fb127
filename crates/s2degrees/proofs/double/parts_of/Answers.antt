use Rattle.std.proofs.Common.{◌/◌, ◌%◌, ◌^◌, arith}
use Rattle.s2degrees.proofs.Doubles.{field_suc, field_zero}
use Rattle.s2degrees.proofs.double.parts_of.Goals as goal

pub returns-then-field-eq0-clause-worth : goal.returns-then-field-eq0-clause-worth
returns-then-field-eq0-clause-worth c s =
    field_zero s (c.args.bits / 2 ^ 52) (c.args.bits % 2 ^ 52) (omega (arith, c.if-field-eq0.true))

pub returns-else-field-eq0-clause-worth : goal.returns-else-field-eq0-clause-worth
returns-else-field-eq0-clause-worth c s =
    field_suc s (c.args.bits / 2 ^ 52) (c.args.bits % 2 ^ 52) (λ e. absurd (omega (arith, e, c.if-field-eq0.false)))
    (omega (arith, c.requires))
