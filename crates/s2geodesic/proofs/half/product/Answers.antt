use Rattle.std.proofs.Common.{◌∙◌, refl, arith, rules, pos}
use Rattle.std.proofs.lemmas.Int.{ints}
use Rattle.s2geodesic.proofs.Tries.{IsSmallProduct, small_product}
use Rattle.s2polygon.proofs.Sizes.{three_steps}
use Rattle.s2geodesic.proofs.half.product.Goals.{After-times-3}
use Rattle.s2geodesic.proofs.half.product.Goals as goal

pub overflow_add-result : goal.overflow_add-result
overflow_add-result c =
    let first = small_product c.times.result c.args.x c.x.result (search rules) (search rules) c.times.ensures
    c.requires.x in
    let second = small_product c.times-2.result c.args.y c.y.result (search rules) (search rules) c.times-2.ensures
    c.requires.y in
    (three_steps c.times.result c.times-2.result (pos 0) first.small second.small (omega (arith, ints))).first_fits

record AreProducts (c : After-times-3) : Type 0 where
  first : IsSmallProduct c.times.result c.args.x c.x.result
  second : IsSmallProduct c.times-2.result c.args.y c.y.result
  third : IsSmallProduct c.times-3.result c.args.z c.z.result

products : (c : After-times-3) → AreProducts c
products c = record {
  first = small_product c.times.result c.args.x c.x.result (search rules) (search rules) c.times.ensures c.requires.x;
  second = small_product c.times-2.result c.args.y c.y.result (search rules) (search rules) c.times-2.ensures
      c.requires.y;
  third = small_product c.times-3.result c.args.z c.z.result (search rules) (search rules) c.times-3.ensures
      c.requires.z;
}

pub overflow_add-result-2 : goal.overflow_add-result-2
overflow_add-result-2 c =
    let at = products (goal.at.overflow_add-result-2 c).After-times-3 in
    (three_steps c.times.result c.times-2.result c.times-3.result at.first.small at.second.small
    at.third.small).step.fits

pub returns : goal.returns
returns c =
    let at = products (goal.at.returns c).After-times-3 in
    (three_steps c.times.result c.times-2.result c.times-3.result at.first.small at.second.small
    at.third.small).step.is
    ∙ rw (at.first.is, at.second.is, at.third.is, c.x.ensures, c.y.ensures, c.z.ensures) refl
