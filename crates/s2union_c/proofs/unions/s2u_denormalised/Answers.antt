use Rattle.std.proofs.Common.{◌≡◌, refl, length, rules}
use Rattle.std.specs.Int.{w32}
use Rattle.std.proofs.lemmas.Int.{to_z-of_z}
use mir.Val.{SFits}
use Rattle.s2list.specs.Denorm.{denormalised}
use Rattle.s2union_c.proofs.Placed.{kept, placed}
use Rattle.s2union_c.proofs.unions.s2u_denormalised.Goals as goal

pub returns-clause-made : goal.returns-clause-made
returns-clause-made c local cutting =
    let fits : SFits w32 c.room_status.result = search rules in
    rw (to_z-of_z w32 c.room_status.result fits)
    (placed (λ list. list ≡ denormalised c.args.min c.args.modulus c.args.ids.now) c.args.out.now
    c.denormalise.new.out c.denormalise.result (length c.denormalise.new.out) c.room_status.result
    (c.denormalise.ensures.put local) refl c.room_status.ensures.fits c.room_status.ensures.short)

pub returns-clause-any : goal.returns-clause-any
returns-clause-any c cutting =
    let fits : SFits w32 c.room_status.result = search rules in
    rw (to_z-of_z w32 c.room_status.result fits)
    (kept c.args.out.now c.denormalise.new.out c.denormalise.result (length c.denormalise.new.out)
    c.room_status.result c.denormalise.ensures.len (λ _. c.denormalise.ensures.rest) refl c.room_status.ensures.fits
    c.room_status.ensures.short)
