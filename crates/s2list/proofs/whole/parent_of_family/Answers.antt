use Rattle.std.proofs.Common.{◌≡◌, bit_xor, arith}
use Rattle.s2list.proofs.Families.{family_xor}
use Rattle.s2list.proofs.whole.parent_of_family.Goals as goal

pub returns-then-fourth-id : goal.returns-then-fourth-id
returns-then-fourth-id c p f =
    let x : bit_xor (bit_xor c.args.a c.args.b) c.args.c ≡ c.args.d = family_xor f in
    let i = c.id.ensures.value in
    absurd (omega arith)
