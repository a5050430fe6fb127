use Rattle.s2cell.proofs.Squares.{one_square, place_in_square, leaf_in_cell}
use Rattle.s2cell.proofs.Quarters.{orientation_of_face, square_of_face, square_of_child, orientation_of_child}
use Rattle.s2cell.proofs.laws.law_of_squares.Goals as goal

pub returns-clause-one_square : goal.returns-clause-one_square
returns-clause-one_square c n f i j s g x y t ic a b = let e = one_square n f i j s g x y t ic a b in
    (e.face, e.first, e.second, e.size)

pub returns-clause-within : goal.returns-clause-within
returns-clause-within c cell face i j size n x y sq at = (place_in_square sq at, leaf_in_cell sq at)

pub returns-clause-face : goal.returns-clause-face
returns-clause-face c n i e = (square_of_face i e, orientation_of_face n e)

pub returns-clause-quarter : goal.returns-clause-quarter
returns-clause-quarter c = square_of_child

pub returns-clause-turn : goal.returns-clause-turn
returns-clause-turn c = orientation_of_child
