use Rattle.std.proofs.Common.{◌≡◌, ◌∙◌, ap, ap₂, ℤ, Some, nat_cmp, w64}
use Rattle.std.specs.Range.{range_inclusive_start}
use Rattle.std.specs.Int.{saturate_unsigned}
use Rattle.std.specs.Ordering.{ord_max}
use Rattle.std.specs.Prelude.{Option}
use Rattle.clap.specs.Values.{unsigned_up_to}
use Rattle.clap.specs.Words.{rule_of}
use Rattle.clap.specs.declared.builder.value_parser.ValueParser.{ValueParser}
use Rattle.clap.specs.declared.builder.value_parser.ValueParser.TheVariants as vp
use Rattle.s2calc.proofs.arguments.limit.Goals as goal

abbrev up_to : ℤ → ℤ → ValueParser
up_to low high = unsigned_up_to (ord_max nat_cmp 0 (saturate_unsigned w64 low)) 18446744073709551615 (Some high)

pub returns-clause-rule : goal.returns-clause-rule
returns-clause-rule c =
    let narrowed : c.range.result ≡ up_to (range_inclusive_start c.new.result) c.new.result.end =
    rw c.value_parser.ensures at c.range.ensures in
    let made : c.range.result ≡ vp.Unsigned 1 1000000 = narrowed ∙ ap₂ up_to c.new.ensures.start c.new.ensures.end in
    let given = c.value_parser-2.ensures.given in
    let parser : c.value_parser-2.result.value_parser ≡ Some (vp.Unsigned 1 1000000) = given.1
    ∙ ap Some (given.2 ∙ made) in
    ap rule_of c.value_parser-2.ensures.others
    ∙ ap (λ (p : Option ValueParser). rule_of (record c.number.result { value_parser = p })) parser
    ∙ c.number.ensures.rule (vp.Unsigned 1 1000000)
