use Rattle.std.proofs.Common.{◌≡◌, ◌∙◌, sym, subst, arith, pos, ◌<ℤ◌, refl, to_z, of_z, w64, IsTrue, true, false, rules}
use Rattle.std.proofs.lemmas.Int.{ints}
use Rattle.std.proofs.lemmas.List.Elements.{All-more}
use Rattle.std.proofs.lemmas.List.{take_all}
use Rattle.s2geodesic.specs.Halves.{LieBefore}
use Rattle.s2geodesic.proofs.Tries.{normal_kept, product_kept}
use Rattle.s2polygon.specs.Directions.{Point}
use Rattle.s2polygon.specs.Moves.{product_of}
use Rattle.s2geodesic.proofs.half.lie_before.Goals.{After-product}
use Rattle.s2geodesic.proofs.half.lie_before.Goals as goal

yes : IsTrue true
yes = search rules

no : IsTrue false → ⊥
no h = search rules

made : (c : After-product) → c.product.result
    ≡ product_of (record { x = c.args.x; y = c.args.y; z = c.args.z }) c.corner-item.result
made c =
    c.product.ensures
    ∙ product_kept c.args.x c.args.y c.args.z (omega (arith, c.requires.x)) (omega (arith, c.requires.y))
    (omega (arith, c.requires.z)) c.corner-item.result

pub returns-then-product-le0 : goal.returns-then-product-le0
returns-then-product-le0 c =
    let n : Point = record { x = c.args.x; y = c.args.y; z = c.args.z } in (
      λ t. absurd (no t),
      λ before.
          let there = subst (λ p. pos 0 <ℤ product_of n p) (sym c.corner-item.is)
          (before c.loop-corner.corner-index c.corner-item.result c.loop-corner-test.true) in
          let is = made (goal.at.returns-then-product-le0 c).After-product in
          absurd (omega (arith, ints, c.if-product-le0.true, is, there)),
    )

pub loop-corner-preserved : goal.loop-corner-preserved
loop-corner-preserved c =
    let n : Point = record {
      x = to_z w64 (of_z w64 c.args.x);
      y = to_z w64 (of_z w64 c.args.y);
      z = to_z w64 (of_z w64 c.args.z);
    } in
    let is = c.product.ensures in
    let there : pos 0 <ℤ product_of n c.corner-item.result = omega (arith, ints, c.if-product-le0.false, is) in
    All-more (λ p. pos 0 <ℤ product_of n p) c.args.corners.now c.loop-corner.corner-index c.corner-item.result
    c.loop-corner-test.true c.loop-corner.invariant (subst (λ p. pos 0 <ℤ product_of n p) c.corner-item.is there)

pub returns : goal.returns
returns c =
    let all = take_all c.loop-corner.corner-index c.args.corners.now (omega (arith, c.loop-corner-test.false)) in
    let same = normal_kept c.args.x c.args.y c.args.z c.args.x c.args.y c.args.z c.requires.x c.requires.y c.requires.z
    refl refl refl in (
      λ t. subst (λ n. LieBefore n c.args.corners.now) same
          (subst (LieBefore (record {
            x = to_z w64 (of_z w64 c.args.x);
            y = to_z w64 (of_z w64 c.args.y);
            z = to_z w64 (of_z w64 c.args.z);
          })) all c.loop-corner.invariant),
      λ before. yes,
    )
