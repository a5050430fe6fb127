use Rattle.std.proofs.Common.{◌∙◌, ap, sym, arith, inr, rules}
use Rattle.std.specs.Int.{w32}
use Rattle.std.proofs.lemmas.Int.{to_z-of_z}
use mir.Val.{SFits}
use Rattle.s2union_c.specs.Polygons.{region_of}
use Rattle.s2union_c.proofs.Rings.{given_memory}
use Rattle.s2union_c.proofs.polygons.cover_up_to.Goals as goal

pub returns-in-Ok-clause-made : goal.returns-in-Ok-clause-made
returns-in-Ok-clause-made c asked given =
    let fits : SFits w32 c.put_up_to.result = search rules in
    let is = c.in-Ok.ensures.made
    ∙ ap (λ leaf. region_of c.args.corners.now c.args.ends.now leaf c.args.margin) c.in-Some.ensures.1 in
    rw (to_z-of_z w32 c.put_up_to.result fits, sym is, sym c.min.ensures) c.put_up_to.ensures.made

pub returns-in-Err-clause-made : goal.returns-in-Err-clause-made
returns-in-Err-clause-made c asked given =
    let fits : SFits w32 c.refuse.result = search rules in
    rw (to_z-of_z w32 c.refuse.result fits) (inr (given_memory c.args.corners.now c.args.ends.now c.args.out.now
    (c.refuse.ensures c.args.corners.now c.args.ends.now c.args.out.now c.in-Err.ensures.fault) given))

pub returns-in-Err-clause-most : goal.returns-in-Err-clause-most
returns-in-Err-clause-most c given =
    let memory = given_memory c.args.corners.now c.args.ends.now c.args.out.now
    (c.refuse.ensures c.args.corners.now c.args.ends.now c.args.out.now c.in-Err.ensures.fault) given in
    omega (arith, memory.1)
