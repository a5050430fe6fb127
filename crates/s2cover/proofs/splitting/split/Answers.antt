use Rattle.std.proofs.Common.{arith, ◌≡◌, ◌+◌, ◌<◌, ◌≤◌, length, refl, ap, subst}
use Rattle.s2cover.specs.Working.Descent.{is_outer}
use Rattle.s2cover.specs.Working.Splitting.{IsFamily, Sizes}
use Rattle.s2cover.proofs.Splittings.{splits_none, splits_next, splits_done}
use Rattle.s2cover.proofs.splitting.split.Goals as goal

pub loop-limit-init : goal.loop-limit-init
loop-limit-init g c =
    let r = c.args.region.now in
    let f = c.in_ok-families.ensures in
    splits_none g.R.RoughRegion.id (g.R.RoughRegion.sound r) g.R.RoughRegion.work
    (g.R.RoughRegion.outside r) (g.R.RoughRegion.inside r) (g.R.RoughRegion.crosses r)
    (λ f. f.cell) (λ f. length f.inside.items + length f.across.items ≤ 4)
    (λ k f. IsFamily g.R.RoughRegion.id (g.R.RoughRegion.sound r) g.R.RoughRegion.work
    (g.R.RoughRegion.outside r) (g.R.RoughRegion.inside r) (g.R.RoughRegion.crosses r) k f.cell
    f.inside.items f.across.items)
    refl f.empty f.len f.few f.times f.families c.requires.sizes

pub settle_some-requires : goal.settle_some-requires
settle_some-requires g c = record {
  few = c.loop-limit.invariant.few;
  most = c.requires.most;
  sizes = c.loop-limit.invariant.sizes;
}

pub loop-limit-preserved : goal.loop-limit-preserved
loop-limit-preserved g c =
    let r = c.args.region.now in
    let s = c.in_ok-families-2.ensures in
    splits_next g.R.RoughRegion.id (g.R.RoughRegion.sound r) g.R.RoughRegion.work
    (g.R.RoughRegion.outside r) (g.R.RoughRegion.inside r) (g.R.RoughRegion.crosses r)
    (λ f. f.cell) (λ f. length f.inside.items + length f.across.items ≤ 4)
    (λ k f. IsFamily g.R.RoughRegion.id (g.R.RoughRegion.sound r) g.R.RoughRegion.work
    (g.R.RoughRegion.outside r) (g.R.RoughRegion.inside r) (g.R.RoughRegion.crosses r) k f.cell
    f.inside.items f.across.items)
    c.in_ok-families-2.families.items c.settle_some.new.kept.items c.settle_some.new.ahead.items s.none s.few s.sizes
    (s.families r) (s.front r) c.loop-limit.invariant

pub returns-clause-sizes : goal.returns-clause-sizes
returns-clause-sizes g c =
    let last : 20 < c.loop-limit.limit = (let t = c.loop-limit-test.false in omega arith) in
    let none = ap length (c.loop-limit.invariant.none last) in
    subst (λ n. Sizes (is_outer c.args.kind) c.args.most n (length c.loop-limit.kept.items)
    (length c.loop-limit.ahead.items)) none c.loop-limit.invariant.sizes

pub returns-clause-front : goal.returns-clause-front
returns-clause-front g c =
    let r = c.args.region.now in
    let last : c.loop-limit.limit ≡ 21 = (let t = c.loop-limit-test.false in let e = c.loop-limit.auto.limit-end in
    omega arith) in
    splits_done g.R.RoughRegion.id (g.R.RoughRegion.sound r) g.R.RoughRegion.work
    (g.R.RoughRegion.outside r) (g.R.RoughRegion.inside r) (g.R.RoughRegion.crosses r)
    (λ f. f.cell) (λ f. length f.inside.items + length f.across.items ≤ 4)
    (λ k f. IsFamily g.R.RoughRegion.id (g.R.RoughRegion.sound r) g.R.RoughRegion.work
    (g.R.RoughRegion.outside r) (g.R.RoughRegion.inside r) (g.R.RoughRegion.crosses r) k f.cell
    f.inside.items f.across.items)
    last c.loop-limit.invariant
