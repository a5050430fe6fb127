use Rattle.s2polygon.proofs.Neighbors.{neighbors_alike}
use Rattle.s2polygon.proofs.Sharing.{around_corner, other_leaf, share_on_face}
use Rattle.s2polygon.proofs.laws.law_of_neighbors.Goals as goal

pub returns-clause-inside : goal.returns-clause-inside
returns-clause-inside c = neighbors_alike

pub returns-clause-faces : goal.returns-clause-faces
returns-clause-faces c = share_on_face

pub returns-clause-shared : goal.returns-clause-shared
returns-clause-shared c = other_leaf

pub returns-clause-known : goal.returns-clause-known
returns-clause-known c = around_corner
