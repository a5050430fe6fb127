use Rattle.std.proofs.Common.{arith}
use Rattle.std.proofs.lemmas.Int.{ints}
use Rattle.s2cell.specs.Cell.{first_leaf}
use Rattle.s2geodesic.proofs.Opposite.{as_given, behind_0, behind_1, behind_2, behind_3, behind_4, behind_5, kept_sign}
use Rattle.s2geodesic.proofs.Opposite.{minus_kept}
use Rattle.s2geodesic.proofs.half.leaf_opposite.Goals as goal

pub returns-then-x-lt0-clause-behind : goal.returns-then-x-lt0-clause-behind
returns-then-x-lt0-clause-behind c =
    let far = as_given 0 _ _ _ _ (first_leaf c.leaf_behind.result) c.leaf_behind.ensures.far
    (kept_sign c.args.y c.requires.y)
    (kept_sign c.args.z c.requires.z) in
    behind_0 c.args.x c.args.y c.args.z (first_leaf c.leaf_behind.result) far
    (omega (arith, ints, c.if-x-lt0.true))

pub returns-then-y-lt0-clause-behind : goal.returns-then-y-lt0-clause-behind
returns-then-y-lt0-clause-behind c =
    let far = as_given 1 _ _ _ _ (first_leaf c.leaf_behind-then-y-lt0.result) c.leaf_behind-then-y-lt0.ensures.far
    (minus_kept c.args.x c.requires.x)
    (kept_sign c.args.z c.requires.z) in
    behind_1 c.args.x c.args.y c.args.z (first_leaf c.leaf_behind-then-y-lt0.result) far
    (omega (arith, ints, c.if-y-lt0.true))

pub returns-then-z-lt0-clause-behind : goal.returns-then-z-lt0-clause-behind
returns-then-z-lt0-clause-behind c =
    let far = as_given 2 _ _ _ _ (first_leaf c.leaf_behind-then-z-lt0.result) c.leaf_behind-then-z-lt0.ensures.far
    (minus_kept c.args.x c.requires.x)
    (minus_kept c.args.y c.requires.y) in
    behind_2 c.args.x c.args.y c.args.z (first_leaf c.leaf_behind-then-z-lt0.result) far
    (omega (arith, ints, c.if-z-lt0.true))

pub returns-then-x-gt0-clause-behind : goal.returns-then-x-gt0-clause-behind
returns-then-x-gt0-clause-behind c =
    let far = as_given 3 _ _ _ _ (first_leaf c.leaf_behind-then-x-gt0.result) c.leaf_behind-then-x-gt0.ensures.far
    (minus_kept c.args.z c.requires.z)
    (minus_kept c.args.y c.requires.y) in
    behind_3 c.args.x c.args.y c.args.z (first_leaf c.leaf_behind-then-x-gt0.result) far
    (omega (arith, ints, c.if-x-gt0.true))

pub returns-then-y-gt0-clause-behind : goal.returns-then-y-gt0-clause-behind
returns-then-y-gt0-clause-behind c =
    let far = as_given 4 _ _ _ _ (first_leaf c.leaf_behind-then-y-gt0.result) c.leaf_behind-then-y-gt0.ensures.far
    (minus_kept c.args.z c.requires.z)
    (kept_sign c.args.x c.requires.x) in
    behind_4 c.args.x c.args.y c.args.z (first_leaf c.leaf_behind-then-y-gt0.result) far
    (omega (arith, ints, c.if-y-gt0.true))

pub returns-else-y-gt0-clause-behind : goal.returns-else-y-gt0-clause-behind
returns-else-y-gt0-clause-behind c =
    let far = as_given 5 _ _ _ _ (first_leaf c.leaf_behind-else-y-gt0.result) c.leaf_behind-else-y-gt0.ensures.far
    (kept_sign c.args.y c.requires.y)
    (kept_sign c.args.x c.requires.x) in
    behind_5 c.args.x c.args.y c.args.z (first_leaf c.leaf_behind-else-y-gt0.result) far
    (omega (arith, ints, c.if-z-lt0.false))
