use Rattle.std.proofs.Common.{ap, arith, length, refl, rules}
use Rattle.std.specs.Int.{w32}
use Rattle.std.proofs.lemmas.Int.{to_z-of_z}
use mir.Val.{SFits}
use Rattle.s2file.specs.Numbers.{numbers_in}
use Rattle.s2union_c.proofs.Held.{holders_few}
use Rattle.s2union_c.proofs.Placed.{placed_any, placed_within}
use Rattle.s2union_c.proofs.files.s2u_file_ancestors.Goals as goal

pub returns-in-Ok-clause-made : goal.returns-in-Ok-clause-made
returns-in-Ok-clause-made c framed local =
    let fits : SFits w32 c.room_status.result = search rules in
    let put = rw c.in-Ok.ensures.1 at c.ancestors-n.ensures.put local in
    let few = holders_few _ put.list local.cells put.is in
    let many = ap (λ b. length (numbers_in b)) c.in-Ok.ensures.1 in
    rw (to_z-of_z w32 c.room_status.result fits)
    (placed_within c.args.out.now c.ancestors-n.new.out _ c.room_status.result put c.min-room.ensures c.min.ensures
    (c.bound-most.ensures.enough _ (omega arith) (omega (arith, put.len_is, few, c.len.ensures, many))) refl
    c.room_status.ensures.fits c.room_status.ensures.short)

pub returns-in-Ok-clause-any : goal.returns-in-Ok-clause-any
returns-in-Ok-clause-any c framed =
    let fits : SFits w32 c.room_status.result = search rules in
    rw (to_z-of_z w32 c.room_status.result fits)
    (placed_any c.args.out.now c.ancestors-n.new.out c.ancestors-n.result _ _ c.room_status.result
    c.ancestors-n.ensures.len c.ancestors-n.ensures.rest c.min-room.ensures c.min.ensures refl
    c.room_status.ensures.fits c.room_status.ensures.short)
