use Rattle.std.proofs.Common.{inl, refl, rules, arith}
use Rattle.std.specs.Int.{w32}
use Rattle.std.proofs.lemmas.Int.{to_z-of_z}
use Rattle.std.proofs.lemmas.List.{length-take-le}
use mir.Val.{SFits}
use Rattle.s2file.specs.Numbers.{numbers_in}
use Rattle.s2union_c.proofs.Wrong.{not_all_cells}
use Rattle.s2union_c.proofs.Decoding.{decoded_whole, decoded_here, decoded_apart}
use Rattle.s2union_c.proofs.Placed.{made_length, made_one_few}
use Rattle.s2union_c.proofs.files.decode_numbers.Goals as goal

pub returns-then-is_union-clause-made : goal.returns-then-is_union-clause-made
returns-then-is_union-clause-made c cells =
    let fits : SFits w32 c.put_numbers.result = search rules in
    rw (to_z-of_z w32 c.put_numbers.result fits)
    (decoded_whole (numbers_in c.args.bytes.now) c.args.out.now c.put_numbers.new.out c.put_numbers.new.len
    c.put_numbers.result (c.if-is_union.ensures.0 refl) c.put_numbers.ensures)

pub returns-then-is_union-clause-wrong : goal.returns-then-is_union-clause-wrong
returns-then-is_union-clause-wrong c none = absurd (none (c.if-is_union.ensures.0 refl).cells)

pub returns-in-Some-clause-made : goal.returns-in-Some-clause-made
returns-in-Some-clause-made c cells = absurd (not_all_cells _ _ cells c.in-Some.ensures)

pub normalise_numbers-requires-clause-size : goal.normalise_numbers-requires-clause-size
normalise_numbers-requires-clause-size c =
    let many = c.len-n.ensures in
    let whole = c.requires.whole in
    let part = length-take-le c.len-n.result c.args.out.now (omega arith) in
    omega arith

pub returns-then-n-out-clause-made : goal.returns-then-n-out-clause-made
returns-then-n-out-clause-made c cells = inl (
  refl,
  rw c.len-n.ensures (decoded_here (numbers_in c.args.bytes.now) c.args.out.now c.normalise_numbers.new.out
      c.normalise_numbers.result c.normalise_numbers.ensures (omega arith)),
)

pub returns-then-n-out-clause-wrong : goal.returns-then-n-out-clause-wrong
returns-then-n-out-clause-wrong c none = absurd (none c.in_default.ensures)

pub returns-clause-made : goal.returns-clause-made
returns-clause-made c cells =
    let many = c.len-n.ensures in
    let fits : SFits w32 c.put_normalised.result = search rules in
    rw (to_z-of_z w32 c.put_normalised.result fits)
    (decoded_apart (numbers_in c.args.bytes.now) c.args.out.now c.put_normalised.new.out c.put_normalised.new.len
    c.put_normalised.result (omega arith) c.put_normalised.ensures)

pub returns-clause-wrong : goal.returns-clause-wrong
returns-clause-wrong c none = absurd (none c.in_default.ensures)

pub returns-then-is_union-clause-most : goal.returns-then-is_union-clause-most
returns-then-is_union-clause-most c = omega (arith, made_length c.put_numbers.ensures)

pub returns-then-n-out-clause-most : goal.returns-then-n-out-clause-most
returns-then-n-out-clause-most c = c.normalise_numbers.ensures.within

pub returns-clause-most : goal.returns-clause-most
returns-clause-most c = made_one_few _ c.in_default.ensures c.put_normalised.ensures
