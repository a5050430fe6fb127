use Rattle.std.proofs.Common.{◌≡◌, ◌∙◌, true, refl, rules, sym, true≢false}
use Rattle.std.proofs.lemmas.Bool.{lt-ltb}
use Rattle.std.proofs.lemmas.Float.{not_nan_f64_bits}
use Rattle.std.specs.Float.{Float, binary64}
use lib.Ieee.{fin, inf, is_nan, nan}
use lib.Ieee.Bits.{nan_bits_above, nan_bits_is}
use Rattle.s2union_c.proofs.reading.double_of.Goals as goal

nan_alone : (x : Float) → is_nan x ≡ true → x ≡ nan
unfolding is_nan
nan_alone nan h = refl
nan_alone (inf s) h = absurd (true≢false (sym h))
nan_alone (fin s m e) h = absurd (true≢false (sym h))

pub returns-then-bits-gt-INFINITE : goal.returns-then-bits-gt-INFINITE
unfolding lib.Ieee.of_bits
returns-then-bits-gt-INFINITE c =
    sym (nan_alone _ (sym (nan_bits_is binary64 c.args.bits) ∙ nan_bits_above binary64 c.args.bits
    ∙ lt-ltb _ _ c.if-bits-gt-INFINITE.true))

pub float_from_bits-result : goal.float_from_bits-result
float_from_bits-result c = not_nan_f64_bits _ (search rules)
