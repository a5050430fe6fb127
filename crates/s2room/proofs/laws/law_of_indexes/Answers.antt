use Rattle.s2room.proofs.Reaching.{indexed, found}
use Rattle.s2room.proofs.laws.law_of_indexes.Goals as goal

pub returns : goal.returns
returns c xs ys x_holders y_holders cx cy ax ay =
    (indexed xs ys x_holders y_holders cx cy ax ay, found xs ys x_holders y_holders cx cy ax ay)
