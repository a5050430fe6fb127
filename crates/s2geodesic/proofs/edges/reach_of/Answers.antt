use Rattle.std.proofs.Common.{◌∙◌, ap₂, ◌+◌, arith, FitsSigned, rules}
use Rattle.std.proofs.lemmas.Int.{to_z-of_z}
use mir.Syntax.{w128}
use Rattle.s2geodesic.proofs.Reaching.{IsSum, passed_sum, reach_is, size_is, size_small, small_read, sum_is}
use Rattle.s2geodesic.proofs.edges.reach_of.Goals.{After-sum-z}
use Rattle.s2geodesic.proofs.edges.reach_of.Goals as goal

record AreSums (c : After-sum-z) : Type 0 where
  x : IsSum c.sum-x.result c.args.p.x c.args.q.x
  y : IsSum c.sum-y.result c.args.p.y c.args.q.y
  z : IsSum c.sum-z.result c.args.p.z c.args.q.z

sums : (c : After-sum-z) → AreSums c
sums c = record {
  x = sum_is c.sum-x.result c.x.result c.x-2.result c.args.p.x c.args.q.x c.x.ensures c.x-2.ensures c.requires.p.x
      c.requires.q.x c.sum-x.ensures;
  y = sum_is c.sum-y.result c.y.result c.y-2.result c.args.p.y c.args.q.y c.y.ensures c.y-2.ensures c.requires.p.y
      c.requires.q.y c.sum-y.ensures;
  z = sum_is c.sum-z.result c.z.result c.z-2.result c.args.p.z c.args.q.z c.z.ensures c.z-2.ensures c.requires.p.z
      c.requires.q.z c.sum-z.ensures;
}

pub sum-x-requires-clause-a : goal.sum-x-requires-clause-a
sum-x-requires-clause-a c = small_read c.x.result c.args.p.x c.x.ensures c.requires.p.x

pub sum-x-requires-clause-b : goal.sum-x-requires-clause-b
sum-x-requires-clause-b c = small_read c.x-2.result c.args.q.x c.x-2.ensures c.requires.q.x

pub sum-y-requires-clause-a : goal.sum-y-requires-clause-a
sum-y-requires-clause-a c = small_read c.y.result c.args.p.y c.y.ensures c.requires.p.y

pub sum-y-requires-clause-b : goal.sum-y-requires-clause-b
sum-y-requires-clause-b c = small_read c.y-2.result c.args.q.y c.y-2.ensures c.requires.q.y

pub sum-z-requires-clause-a : goal.sum-z-requires-clause-a
sum-z-requires-clause-a c = small_read c.z.result c.args.p.z c.z.ensures c.requires.p.z

pub sum-z-requires-clause-b : goal.sum-z-requires-clause-b
sum-z-requires-clause-b c = small_read c.z-2.result c.args.q.z c.z-2.ensures c.requires.q.z

pub product-requires-clause-x : goal.product-requires-clause-x
product-requires-clause-x c =
    passed_sum c.sum-x.result c.args.p.x c.args.q.x (sums (goal.at.product-requires-clause-x c).After-sum-z).x

pub product-requires-clause-y : goal.product-requires-clause-y
product-requires-clause-y c =
    passed_sum c.sum-y.result c.args.p.y c.args.q.y (sums (goal.at.product-requires-clause-y c).After-sum-z).y

pub product-requires-clause-z : goal.product-requires-clause-z
product-requires-clause-z c =
    passed_sum c.sum-z.result c.args.p.z c.args.q.z (sums (goal.at.product-requires-clause-z c).After-sum-z).z

pub product-requires-2-clause-x : goal.product-requires-2-clause-x
product-requires-2-clause-x c =
    passed_sum c.sum-x.result c.args.p.x c.args.q.x (sums (goal.at.product-requires-2-clause-x c).After-sum-z).x

pub product-requires-2-clause-y : goal.product-requires-2-clause-y
product-requires-2-clause-y c =
    passed_sum c.sum-y.result c.args.p.y c.args.q.y (sums (goal.at.product-requires-2-clause-y c).After-sum-z).y

pub product-requires-2-clause-z : goal.product-requires-2-clause-z
product-requires-2-clause-z c =
    passed_sum c.sum-z.result c.args.p.z c.args.q.z (sums (goal.at.product-requires-2-clause-z c).After-sum-z).z

pub overflow_add-result : goal.overflow_add-result
overflow_add-result c =
    let all = sums (goal.at.overflow_add-result c).After-sum-z in
    let x = size_small c.unsigned_abs.result c.sum-x.result c.args.p.x c.args.q.x c.unsigned_abs.ensures.value all.x in
    let y = size_small c.unsigned_abs-2.result c.sum-y.result c.args.p.y c.args.q.y c.unsigned_abs-2.ensures.value
    all.y in
    omega (arith, x, y)

pub overflow_add-result-2 : goal.overflow_add-result-2
overflow_add-result-2 c =
    let all = sums (goal.at.overflow_add-result-2 c).After-sum-z in
    let x = size_small c.unsigned_abs.result c.sum-x.result c.args.p.x c.args.q.x c.unsigned_abs.ensures.value all.x in
    let y = size_small c.unsigned_abs-2.result c.sum-y.result c.args.p.y c.args.q.y c.unsigned_abs-2.ensures.value
    all.y in
    let z = size_small c.unsigned_abs-3.result c.sum-z.result c.args.p.z c.args.q.z c.unsigned_abs-3.ensures.value
    all.z in
    omega (arith, x, y, z)

pub returns-clause-a : goal.returns-clause-a
returns-clause-a c =
    let fits : FitsSigned w128 c.product.result = search rules in
    let all = sums (goal.at.returns-clause-a c).After-sum-z in
    to_z-of_z w128 c.product.result fits ∙ c.product.ensures
    ∙ reach_is c.sum-x.result c.sum-y.result c.sum-z.result c.args.p c.args.q c.args.p all.x all.y all.z

pub returns-clause-b : goal.returns-clause-b
returns-clause-b c =
    let fits : FitsSigned w128 c.product-2.result = search rules in
    let all = sums (goal.at.returns-clause-b c).After-sum-z in
    to_z-of_z w128 c.product-2.result fits ∙ c.product-2.ensures
    ∙ reach_is c.sum-x.result c.sum-y.result c.sum-z.result c.args.p c.args.q c.args.q all.x all.y all.z

pub returns-clause-sizes : goal.returns-clause-sizes
returns-clause-sizes c =
    let all = sums (goal.at.returns-clause-sizes c).After-sum-z in
    ap₂ ◌+◌
    (ap₂ ◌+◌
    (size_is c.unsigned_abs.result c.sum-x.result c.args.p.x c.args.q.x c.unsigned_abs.ensures.value all.x)
    (size_is c.unsigned_abs-2.result c.sum-y.result c.args.p.y c.args.q.y c.unsigned_abs-2.ensures.value all.y))
    (size_is c.unsigned_abs-3.result c.sum-z.result c.args.p.z c.args.q.z c.unsigned_abs-3.ensures.value all.z)

pub returns-clause-small : goal.returns-clause-small
returns-clause-small c =
    let all = sums (goal.at.returns-clause-small c).After-sum-z in
    let x = size_small c.unsigned_abs.result c.sum-x.result c.args.p.x c.args.q.x c.unsigned_abs.ensures.value all.x in
    let y = size_small c.unsigned_abs-2.result c.sum-y.result c.args.p.y c.args.q.y c.unsigned_abs-2.ensures.value
    all.y in
    let z = size_small c.unsigned_abs-3.result c.sum-z.result c.args.p.z c.args.q.z c.unsigned_abs-3.ensures.value
    all.z in
    omega (arith, x, y, z)
