use Rattle.std.proofs.Common.{refl, sym}
use Rattle.s2edit.proofs.CommonEnds.{lacking_between}
use Rattle.s2edit.proofs.lacking.unshared_cells.Goals as goal

pub returns-clause-out : goal.returns-clause-out
returns-clause-out c =
    rw (← lacking_between c.args.old.now c.args.«new».now _ _ c.same_front-front.result c.same_back-back.result
    c.requires.old_ascends refl refl c.same_front-front.ensures.same c.same_back-back.ensures.same)
    c.unshared_by_a_walk.ensures.out

pub returns-clause-put : goal.returns-clause-put
returns-clause-put c =
    rw (← lacking_between c.args.«new».now c.args.old.now _ _ c.same_front-front.result c.same_back-back.result
    c.requires.new_ascends refl refl (sym c.same_front-front.ensures.same) (sym c.same_back-back.ensures.same))
    c.unshared_by_a_walk.ensures.put
