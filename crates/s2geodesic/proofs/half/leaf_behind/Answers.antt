use Rattle.std.proofs.Common.{subst, arith, ◌≡◌, ◌/◌, ◌^◌}
use Rattle.s2cell.specs.Cell.{first_leaf}
use Rattle.s2geodesic.proofs.Opposite.{far_leaf, kept_sign}
use Rattle.s2geodesic.specs.Working.Places.{IsFarthest}
use Rattle.s2geodesic.proofs.half.leaf_behind.Goals as goal

pub returns-clause-far : goal.returns-clause-far
returns-clause-far c =
    far_leaf (first_leaf c.from_face_ij.result) c.args.face c.farthest.result c.farthest-2.result c.args.u c.args.v
    c.from_face_ij.ensures.place
    (subst (λ u. IsFarthest u c.farthest.result) (kept_sign c.args.u c.requires.u) c.farthest.ensures.place)
    (subst (λ v. IsFarthest v c.farthest-2.result) (kept_sign c.args.v c.requires.v) c.farthest-2.ensures.place)

pub returns-clause-below : goal.returns-clause-below
returns-clause-below c =
    let far = returns-clause-far c in
    let face : first_leaf c.from_face_ij.result / 4 ^ 30 ≡ c.args.face = far.face_is in
    omega (arith, face, c.requires.face)
