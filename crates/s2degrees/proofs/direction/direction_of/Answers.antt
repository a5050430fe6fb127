use Rattle.std.proofs.Common.{◌*◌, ◌*ℤ◌, lit≤, subst, sym, w64}
use Rattle.std.proofs.lemmas.Int.{to_z-of_z}
use Rattle.s2degrees.specs.Degrees.{IsCosine, IsSine}
use Rattle.s2degrees.specs.Directions.{IsDirectionOf}
use Rattle.s2degrees.proofs.Signs.{read_back}
use Rattle.s2degrees.proofs.direction.direction_of.Goals as goal

pub returns-clause-near : goal.returns-clause-near
returns-clause-near c =
    let east = c.sides_of-east.ensures in
    let north = c.sides_of-north.ensures in
    let longitude = sym (to_z-of_z w64 c.args.longitude c.ranges.longitude) in
    let latitude = sym (to_z-of_z w64 c.args.latitude c.ranges.latitude) in
    subst (λ d. IsDirectionOf c.args.longitude c.args.latitude d) (sym c.in-Ok.ensures.made) (record {
      x = λ a k b e h i. read_back c.on_grid-x.result (a *ℤ k) (b * e) c.on_grid-x.ensures.small
          (c.on_grid-x.ensures.near 26001 (a *ℤ k) (b * e) (lit≤ tt) (c.times.ensures.near a k b e
          (east.cosine a b (subst (λ t. IsCosine t a b) longitude h))
          (north.cosine k e (subst (λ t. IsCosine t k e) latitude i))));
      y = λ a k b e h i. read_back c.on_grid-y.result (a *ℤ k) (b * e) c.on_grid-y.ensures.small
          (c.on_grid-y.ensures.near 26001 (a *ℤ k) (b * e) (lit≤ tt) (c.times-2.ensures.near a k b e
          (east.sine a b (subst (λ t. IsSine t a b) longitude h))
          (north.cosine k e (subst (λ t. IsCosine t k e) latitude i))));
      z = λ a b h. read_back c.on_grid-z.result a b c.on_grid-z.ensures.small
          (c.on_grid-z.ensures.near 13000 a b (lit≤ tt) (north.sine a b (subst (λ t. IsSine t a b) latitude h)));
    })
