use Rattle.s2list.specs.Union.{IsNormalForm}
use Rattle.s2list.proofs.Normal.{one_normal_form}
use Rattle.s2union_c.proofs.Placed.{enough, enough_again}
use Rattle.s2union_c.proofs.laws.enough_room.Goals as goal

pub returns-clause-bound : goal.returns-clause-bound
returns-clause-bound c most status old new len kept few = enough most status old new len kept few

pub returns-clause-again : goal.returns-clause-again
returns-clause-again c S status next old new room after len again first second fits =
    enough_again (IsNormalForm S) status next old new room after len again
    (λ xs ys a b. one_normal_form S xs ys a b) first second fits
