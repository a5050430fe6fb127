use Rattle.std.proofs.Common.{rules}
use Rattle.std.specs.Int.{w32}
use Rattle.std.proofs.lemmas.Int.{to_z-of_z}
use mir.Val.{SFits}
use Rattle.s2union_c.proofs.polygons.s2u_polygon_inner_up_to.Goals as goal

pub returns-clause-rings : goal.returns-clause-rings
returns-clause-rings c =
    let fits : SFits w32 c.cover_up_to.result = search rules in
    rw (to_z-of_z w32 c.cover_up_to.result fits) c.cover_up_to.ensures.rings
