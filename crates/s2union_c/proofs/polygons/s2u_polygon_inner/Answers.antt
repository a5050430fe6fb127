use Rattle.std.proofs.Common.{rules}
use Rattle.std.specs.Int.{w32}
use Rattle.std.proofs.lemmas.Int.{to_z-of_z}
use mir.Val.{SFits}
use Rattle.s2union_c.proofs.polygons.s2u_polygon_inner.Goals as goal

pub returns-clause-made : goal.returns-clause-made
returns-clause-made c =
    let fits : SFits w32 c.cover_polygon.result = search rules in
    rw (to_z-of_z w32 c.cover_polygon.result fits) c.cover_polygon.ensures.made

pub returns-clause-rings : goal.returns-clause-rings
returns-clause-rings c =
    let fits : SFits w32 c.cover_polygon.result = search rules in
    rw (to_z-of_z w32 c.cover_polygon.result fits) c.cover_polygon.ensures.rings
