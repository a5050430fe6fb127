use Rattle.std.proofs.Common.{sym, subst}
use Rattle.s2list.specs.Union.{IsNormalForm}
use Rattle.s2calc.proofs.edits.assign.Goals as goal

pub returns-in-Ok : goal.returns-in-Ok
returns-in-Ok c S normal = c.assign_as_it_is.ensures S (subst (IsNormalForm S) (sym c.in-Ok.ensures) normal)
