use Rattle.std.proofs.Common.{rules}
use Rattle.std.specs.Int.{w32}
use Rattle.std.proofs.lemmas.Int.{to_z-of_z}
use mir.Val.{SFits}
use Rattle.s2list.specs.Sets.{symmetric_difference_of}
use Rattle.s2union_c.proofs.Same.{same_made}
use Rattle.s2union_c.proofs.laws.same_symmetric_difference.Goals as goal

pub returns : goal.returns
returns c =
    let fits : SFits w32 c.s2u_symmetric_difference.result = search rules in
    rw (to_z-of_z w32 c.s2u_symmetric_difference.result fits)
    (same_made symmetric_difference_of c.in_ok-union.union.cells c.requires.xs c.requires.ys c.cells.ensures.local
    c.cells-2.ensures.local c.in_ok-union.ensures.normal c.s2u_symmetric_difference.ensures.made)
