use Rattle.std.proofs.Common.{arith, ◌-◌}
use Rattle.std.proofs.lemmas.Result.{err_from_is_err_and}
use Rattle.s2polygon.proofs.Leaves.{in_range, start, one_down, arrived}
use Rattle.s2polygon.specs.Descents.{near_of}
use Rattle.s2polygon.proofs.descent.descend_to.Goals as goal

pub loop-k-init : goal.loop-k-init
loop-k-init c = (
  (c.requires.bottom, omega arith),
  c.requires.within,
  start c.args.margin (near_of c.args.all.now c.args.face) c.args.x c.args.y c.requires.x
      c.requires.y,
)

pub overflow_sub-k : goal.overflow_sub-k
overflow_sub-k c = omega (arith, c.loop-k.invariant.0.1, c.loop-k-test.true)

pub overflow_cast-k : goal.overflow_cast-k
overflow_cast-k c = omega (arith, c.loop-k.invariant.0.1, c.loop-k-test.true)

pub overflow_shr-x : goal.overflow_shr-x
overflow_shr-x c = omega (arith, c.loop-k.invariant.0.1, c.loop-k-test.true)

pub overflow_cast-k-in-loop-k : goal.overflow_cast-k-in-loop-k
overflow_cast-k-in-loop-k c = omega (arith, c.loop-k.invariant.0.1, c.loop-k-test.true)

pub overflow_shr-y : goal.overflow_shr-y
overflow_shr-y c = omega (arith, c.loop-k.invariant.0.1, c.loop-k-test.true)

pub descend-requires-clause-k : goal.descend-requires-clause-k
descend-requires-clause-k c = omega (arith, c.loop-k.invariant.0.1, c.loop-k-test.true)

pub descend-requires-clause-i : goal.descend-requires-clause-i
descend-requires-clause-i c = in_range (c.loop-k.k - 1) c.args.x
    (omega (arith, c.loop-k.invariant.0.1, c.loop-k-test.true)) c.requires.x

pub descend-requires-clause-j : goal.descend-requires-clause-j
descend-requires-clause-j c = in_range (c.loop-k.k - 1) c.args.y
    (omega (arith, c.loop-k.invariant.0.1, c.loop-k-test.true)) c.requires.y

pub descend-requires-clause-margin : goal.descend-requires-clause-margin
descend-requires-clause-margin c = c.requires.margin

pub descend-requires-clause-framed : goal.descend-requires-clause-framed
descend-requires-clause-framed c = c.requires.framed

pub descend-requires-clause-within : goal.descend-requires-clause-within
descend-requires-clause-within c = c.loop-k.invariant.1

pub returns-in_err-known-clause-right : goal.returns-in_err-known-clause-right
returns-in_err-known-clause-right c =
    let p = err_from_is_err_and c.from_residual.result c.from_residual.ensures.1 in
    λ top edges right. rw p.1 tt

pub returns-in_err-known-clause-within : goal.returns-in_err-known-clause-within
returns-in_err-known-clause-within c =
    let p = err_from_is_err_and c.from_residual.result c.from_residual.ensures.1 in
    rw p.1 tt

pub loop-k-smaller : goal.loop-k-smaller
loop-k-smaller c = omega (arith, c.loop-k.invariant.0.1, c.loop-k-test.true)

pub loop-k-preserved : goal.loop-k-preserved
loop-k-preserved c = (
  (omega (arith, c.loop-k-test.true), omega (arith, c.loop-k.invariant.0.1, c.loop-k-test.true)),
  c.in_ok-known.ensures.within,
  one_down c.args.margin (near_of c.args.all.now c.args.face) c.args.x c.args.y c.loop-k.k
      (near_of c.args.all.now c.loop-k.known) (near_of c.args.all.now c.in_ok-known.known)
      (omega (arith, c.loop-k-test.true)) c.loop-k.invariant.0.1 c.loop-k.invariant.2 c.in_ok-known.ensures.right,
)

pub returns-clause-right : goal.returns-clause-right
returns-clause-right c = arrived c.args.margin (near_of c.args.all.now c.args.face) c.args.x c.args.y c.args.bottom
    c.loop-k.k (near_of c.args.all.now c.loop-k.known)
    (omega (arith, c.loop-k.invariant.0.0, c.loop-k-test.false)) c.loop-k.invariant.2

pub returns-clause-within : goal.returns-clause-within
returns-clause-within c = c.loop-k.invariant.1
