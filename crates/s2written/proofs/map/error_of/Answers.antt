use Rattle.std.proofs.Common.{inr, refl}
use Rattle.s2written.proofs.Maps.{no_rings}
use Rattle.s2written.proofs.map.error_of.Goals as goal

pub returns-in_default : goal.returns-in_default
returns-in_default c corners ends on fault =
    inr (refl, no_rings corners ends c.args.fault on fault c.in_default.not-Memory)
