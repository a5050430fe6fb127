use Rattle.std.proofs.Common.{rules, sym, ◌∙◌}
use Rattle.std.proofs.lemmas.Bool.{lt-ltb}
use Rattle.std.proofs.lemmas.Float.{not_nan_f64_bits}
use Rattle.std.specs.Float.{binary64}
use lib.Ieee.Bits.{nan_bits_above, nan_bits_is}
use Rattle.s2written.proofs.Degrees.{nan_has_none, none_few}
use Rattle.s2written.proofs.map.femtodegrees_in.Goals as goal

pub float_from_bits-bits : goal.float_from_bits-bits
float_from_bits-bits c = not_nan_f64_bits _ (search rules)

pub returns-then-bits-gt-INFINITE-clause-none : goal.returns-then-bits-gt-INFINITE-clause-none
returns-then-bits-gt-INFINITE-clause-none c z f k =
    nan_has_none _ z (sym (nan_bits_is binary64 c.args.bits) ∙ nan_bits_above binary64 c.args.bits
    ∙ lt-ltb _ _ c.if-bits-gt-INFINITE.true) f

pub returns-in_default-clause-none : goal.returns-in_default-clause-none
returns-in_default-clause-none c z f k =
    none_few _ c.in_default.field-0 c.args.most z c.requires c.in_default.ensures.fault f k
