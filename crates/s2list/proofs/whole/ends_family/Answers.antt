use Rattle.std.proofs.Common.{◌≡◌, bit_xor, arith}
use Rattle.std.proofs.lemmas.Bool.{false≢true}
use Rattle.s2list.proofs.Families.{family_xor}
use Rattle.s2list.proofs.whole.ends_family.Goals as goal

pub returns-then-fourth-d : goal.returns-then-fourth-d
returns-then-fourth-d c = (
  λ e. absurd (false≢true e),
  λ (p, f).
      let x : bit_xor (bit_xor c.args.a c.args.b) c.args.c ≡ c.args.d =
      family_xor f in
      absurd (omega arith),
)
