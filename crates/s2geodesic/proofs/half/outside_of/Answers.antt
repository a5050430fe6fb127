use Rattle.std.proofs.Common.{subst, arith, IsTrue, true, false, rules, ◌/◌, ◌%◌}
use Rattle.s2geodesic.proofs.Tries.{all_tried, next_tried, normal_kept}
use Rattle.s2geodesic.specs.Halves.{LieBefore}
use Rattle.s2geodesic.specs.Working.Places.{sign_at}
use Rattle.s2geodesic.proofs.half.outside_of.Goals as goal

yes : IsTrue true
yes = search rules

pub returns-then-lie_before-clause-opposite : goal.returns-then-lie_before-clause-opposite
returns-then-lie_before-clause-opposite c = record {
  normal = _;
  before = c.if-lie_before.ensures.0 yes;
  behind = c.leaf_opposite.ensures.behind;
}

pub loop-k-preserved : goal.loop-k-preserved
loop-k-preserved c =
    let k = c.loop-k.k in
    let same = normal_kept c.sign-x.result c.sign-y.result c.sign-z.result (sign_at (k / 9)) (sign_at (k / 3 % 3))
    (sign_at (k % 3)) c.sign-x.ensures.small c.sign-y.ensures.small c.sign-z.ensures.small c.sign-x.ensures.value
    c.sign-y.ensures.value c.sign-z.ensures.value in
    next_tried c.args.corners.now k c.loop-k.invariant
    (subst (λ n. ¬ (LieBefore n c.args.corners.now)) same
    (λ before. let h : IsTrue false = c.if-lie_before.ensures.1 before in search rules))

pub returns-clause-spread : goal.returns-clause-spread
returns-clause-spread c =
    all_tried c.args.corners.now (λ k l. c.loop-k.invariant k (omega (arith, c.loop-k-test.false, l)))
