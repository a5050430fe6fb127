use Rattle.std.proofs.Common.{◌∙◌, ap, sym, arith, inr, rules}
use Rattle.std.specs.Int.{w32}
use Rattle.std.proofs.lemmas.Int.{to_z-of_z}
use mir.Val.{SFits}
use Rattle.s2union_c.specs.Polygons.{region_of}
use Rattle.s2union_c.proofs.Rings.{given_memory}
use Rattle.s2union_c.proofs.polygons.s2u_polygon_coverings_up_to.Goals as goal

pub returns-in-Ok-clause-made : goal.returns-in-Ok-clause-made
returns-in-Ok-clause-made c asked given =
    let fits : SFits w32 c.put_both.result = search rules in
    let is = c.in-Ok.ensures.made
    ∙ ap (λ leaf. region_of c.args.corners.now c.args.ends.now leaf c.args.margin) c.in-Some.ensures.1 in
    rw (to_z-of_z w32 c.put_both.result fits, sym is, sym c.min.ensures) c.put_both.ensures.made

pub returns-in-Err-clause-made : goal.returns-in-Err-clause-made
returns-in-Err-clause-made c asked given =
    let fits : SFits w32 c.refuse-status.result = search rules in
    rw (to_z-of_z w32 c.refuse-status.result fits)
    (inr (
      given_memory c.args.corners.now c.args.ends.now c.args.outer.now
          (c.refuse-status.ensures c.args.corners.now c.args.ends.now c.args.outer.now c.in-Err.ensures.fault) given,
      given_memory c.args.corners.now c.args.ends.now c.args.inner.now
          (c.refuse-status.ensures c.args.corners.now c.args.ends.now c.args.inner.now c.in-Err.ensures.fault) given,
    ))

pub returns-in-Err-clause-most : goal.returns-in-Err-clause-most
returns-in-Err-clause-most c given =
    let memory = given_memory c.args.corners.now c.args.ends.now c.args.outer.now
    (c.refuse-status.ensures c.args.corners.now c.args.ends.now c.args.outer.now c.in-Err.ensures.fault) given in
    (omega (arith, memory.1), omega (arith, memory.1))

pub returns-in-Err-clause-rings : goal.returns-in-Err-clause-rings
returns-in-Err-clause-rings c asked none =
    let fits : SFits w32 c.refuse-status.result = search rules in
    rw (to_z-of_z w32 c.refuse-status.result fits) (
      c.refuse-status.ensures c.args.corners.now c.args.ends.now c.args.outer.now c.in-Err.ensures.fault,
      c.refuse-status.ensures c.args.corners.now c.args.ends.now c.args.inner.now c.in-Err.ensures.fault,
    )
