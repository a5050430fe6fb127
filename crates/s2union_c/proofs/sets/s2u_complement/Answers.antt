use Rattle.std.proofs.Common.{arith, refl, rules}
use Rattle.std.specs.Int.{w32}
use Rattle.std.proofs.lemmas.Int.{to_z-of_z}
use mir.Val.{SFits}
use Rattle.s2list.proofs.Lengths.{complement_few}
use Rattle.s2union_c.proofs.Placed.{placed_any, placed_within}
use Rattle.s2union_c.proofs.sets.s2u_complement.Goals as goal

pub returns-clause-made : goal.returns-clause-made
returns-clause-made c local =
    let fits : SFits w32 c.room_status.result = search rules in
    let put = c.put_complement-n.ensures.made local in
    let few = complement_few c.args.ids.now local.cells put.is in
    rw (to_z-of_z w32 c.room_status.result fits)
    (placed_within c.args.out.now c.put_complement-n.new.out _ c.room_status.result put c.min-room.ensures
    c.min.ensures (c.bound-most.ensures.enough _ (omega arith) (omega (arith, put.len_is, few))) refl
    c.room_status.ensures.fits c.room_status.ensures.short)

pub returns-clause-any : goal.returns-clause-any
returns-clause-any c =
    let fits : SFits w32 c.room_status.result = search rules in
    rw (to_z-of_z w32 c.room_status.result fits)
    (placed_any c.args.out.now c.put_complement-n.new.out c.put_complement-n.result _ _ c.room_status.result
    c.put_complement-n.ensures.len c.put_complement-n.ensures.rest c.min-room.ensures c.min.ensures refl
    c.room_status.ensures.fits c.room_status.ensures.short)
