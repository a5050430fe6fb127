use Rattle.std.proofs.Common.{ap, length, arith, rules}
use Rattle.std.specs.Int.{w32}
use Rattle.std.proofs.lemmas.Int.{to_z-of_z}
use Rattle.std.proofs.lemmas.List.{length-drop}
use mir.Val.{SFits}
use Rattle.s2file.proofs.Numbers.{length-numbers}
use Rattle.s2union_c.proofs.files.s2u_decode.Goals as goal

pub decode_numbers-requires-clause-whole : goal.decode_numbers-requires-clause-whole
decode_numbers-requires-clause-whole c =
    let framed = c.in-Ok.ensures.0 in
    let size = framed.length_is in
    let cut = length-drop 9 c.args.bytes.now in
    let same = ap length c.in-Ok.ensures.1 in
    let many = length-numbers c.in-Ok.numbers.now in
    omega arith

pub returns-in-Ok-clause-made : goal.returns-in-Ok-clause-made
returns-in-Ok-clause-made c file =
    let e = c.in-Ok.ensures.1 in
    let fits : SFits w32 c.decode_numbers.result = search rules in
    rw (to_z-of_z w32 c.decode_numbers.result fits) (rw e at (c.decode_numbers.ensures.made (rw e file.cells)))

pub returns-in-Ok-clause-wrong : goal.returns-in-Ok-clause-wrong
returns-in-Ok-clause-wrong c framed none =
    let e = c.in-Ok.ensures.1 in
    let fits : SFits w32 c.decode_numbers.result = search rules in
    rw (to_z-of_z w32 c.decode_numbers.result fits) (c.decode_numbers.ensures.wrong (λ all. none (rw e at all)))

pub returns-in-Ok-clause-most : goal.returns-in-Ok-clause-most
returns-in-Ok-clause-most c = let e = c.in-Ok.ensures.1 in rw e at c.decode_numbers.ensures.most
