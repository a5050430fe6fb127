use Rattle.std.proofs.Common.{arith, ◌≡◌, ◌+◌, ◌≤◌, ◌++◌, length, map, subst}
use Rattle.std.specs.Prelude.{Some}
use Rattle.std.proofs.lemmas.List.Elements.{All-pop}
use Rattle.s2cover.specs.Working.Descent.{is_outer}
use Rattle.s2cover.specs.Working.Splitting.{Front, IsFamily, Sizes}
use Rattle.s2cover.proofs.Splittings.{moved_next, moved_none, moved_other, moved_turned, settled_next, settled_none}
use Rattle.s2cover.proofs.Splittings.{settled_other, settled_sizes, settled_turned, popped, ended}
use Rattle.s2cover.proofs.splitting.settle_some.Goals as goal

pub loop-family-init : goal.loop-family-init
loop-family-init g c = (
  settled_none (λ f. length f.inside.items + length f.across.items ≤ 4) c.new-others.ensures.items c.requires.few
      c.requires.sizes,
  λ r. moved_none g.R.RoughRegion.id (g.R.RoughRegion.sound r) g.R.RoughRegion.work
      (g.R.RoughRegion.outside r) (g.R.RoughRegion.inside r) (g.R.RoughRegion.crosses r)
      (λ f. f.cell) (λ f. length f.inside.items + length f.across.items ≤ 4)
      (λ k f. IsFamily g.R.RoughRegion.id (g.R.RoughRegion.sound r) g.R.RoughRegion.work
      (g.R.RoughRegion.outside r) (g.R.RoughRegion.inside r) (g.R.RoughRegion.crosses r) k f.cell
      f.inside.items f.across.items)
      c.new-others.ensures.items,
)

pub turn_of-requires : goal.turn_of-requires
turn_of-requires g c = (All-pop (λ f. length f.inside.items + length f.across.items ≤ 4) c.loop-family.families.items
    c.pop.new.self.items (Some c.in-Some.family) c.in-Some.ensures.items c.loop-family.invariant.0.few).1

pub settle-requires : goal.settle-requires
settle-requires g c =
    let waiting : c.len.result + c.len-then-turn_of-limit.result ≡ length c.pop.new.self.items
    + length c.loop-family.others.items = omega (
      arith,
      c.len.ensures,
      c.len-then-turn_of-limit.ensures,
      c.pop.new.self.ok.0,
      c.loop-family.others.ok.0,
    ) in
    record {
      few = (All-pop (λ f. length f.inside.items + length f.across.items ≤ 4) c.loop-family.families.items
          c.pop.new.self.items (Some c.in-Some.family) c.in-Some.ensures.items c.loop-family.invariant.0.few).1;
      most = c.requires.most;
      sizes = settled_sizes (λ f. length f.inside.items + length f.across.items ≤ 4)
          c.pop.new.self.items c.in-Some.family c.in-Some.ensures.items waiting c.loop-family.invariant.0;
    }

pub loop-family-smaller : goal.loop-family-smaller
loop-family-smaller g c = popped c.loop-family.families.items c.pop.new.self.items c.in-Some.family
    c.in-Some.ensures.items

pub loop-family-smaller-in-Continue-1 : goal.loop-family-smaller-in-Continue-1
loop-family-smaller-in-Continue-1 g c = popped c.loop-family.families.items c.pop.new.self.items c.in-Some.family
    c.in-Some.ensures.items

pub loop-family-preserved : goal.loop-family-preserved
loop-family-preserved g c = (
  settled_other (λ f. length f.inside.items + length f.across.items ≤ 4)
      c.pop.new.self.items c.add.new.list.items c.in-Some.family c.in-Some.ensures.items c.in_ok-add.ensures
      (λ h. let t = c.turn_of.ensures in let f = c.if-turn_of-limit.false in omega arith) c.loop-family.invariant.0,
  λ r. moved_other g.R.RoughRegion.id (g.R.RoughRegion.sound r) g.R.RoughRegion.work
      (g.R.RoughRegion.outside r) (g.R.RoughRegion.inside r) (g.R.RoughRegion.crosses r)
      (λ f. f.cell) (λ f. length f.inside.items + length f.across.items ≤ 4)
      (λ k f. IsFamily g.R.RoughRegion.id (g.R.RoughRegion.sound r) g.R.RoughRegion.work
      (g.R.RoughRegion.outside r) (g.R.RoughRegion.inside r) (g.R.RoughRegion.crosses r) k f.cell
      f.inside.items f.across.items)
      c.pop.new.self.items c.add.new.list.items c.in-Some.family c.in-Some.ensures.items c.in_ok-add.ensures
      (c.loop-family.invariant.1 r),
)

pub loop-family-preserved-in-Continue-1 : goal.loop-family-preserved-in-Continue-1
loop-family-preserved-in-Continue-1 g c =
    let waiting : c.len.result + c.len-then-turn_of-limit.result ≡ length c.pop.new.self.items
    + length c.loop-family.others.items = omega (
      arith,
      c.len.ensures,
      c.len-then-turn_of-limit.ensures,
      c.pop.new.self.ok.0,
      c.loop-family.others.ok.0,
    ) in (
      settled_next (λ f. length f.inside.items + length f.across.items ≤ 4)
          c.pop.new.self.items c.settle.new.kept.items c.settle.new.ahead.items c.in-Some.family c.in-Some.ensures.items
          waiting c.in_ok-settle.ensures.sizes c.loop-family.invariant.0,
      λ r. moved_next g.R.RoughRegion.id (g.R.RoughRegion.sound r) g.R.RoughRegion.work
          (g.R.RoughRegion.outside r) (g.R.RoughRegion.inside r) (g.R.RoughRegion.crosses r)
          (λ f. f.cell) (λ f. length f.inside.items + length f.across.items ≤ 4)
          (λ k f. IsFamily g.R.RoughRegion.id (g.R.RoughRegion.sound r) g.R.RoughRegion.work
          (g.R.RoughRegion.outside r) (g.R.RoughRegion.inside r) (g.R.RoughRegion.crosses r) k f.cell
          f.inside.items f.across.items)
          c.pop.new.self.items c.settle.new.kept.items c.settle.new.ahead.items c.in-Some.family c.in-Some.ensures.items
          waiting (c.in_ok-settle.ensures.front r) (c.loop-family.invariant.1 r),
    )

pub returns-clause-none : goal.returns-clause-none
returns-clause-none g c = (settled_turned (λ f. length f.inside.items + length f.across.items ≤ 4)
    c.reverse.new.self.items c.reverse.ensures.items c.loop-family.invariant.0).none

pub returns-clause-few : goal.returns-clause-few
returns-clause-few g c = (settled_turned (λ f. length f.inside.items + length f.across.items ≤ 4)
    c.reverse.new.self.items c.reverse.ensures.items c.loop-family.invariant.0).few_others

pub returns-clause-sizes : goal.returns-clause-sizes
returns-clause-sizes g c =
    let left = c.reverse.new.self.items in
    let none : length c.loop-family.families.items + length left ≡ length left =
    omega (arith, c.in_default.ensures.cases.0, c.loop-family.families.ok) in
    subst (λ n. Sizes (is_outer c.args.kind) c.args.most n (length c.loop-family.kept.items)
    (length c.loop-family.ahead.items)) none (settled_turned (λ f. length f.inside.items + length f.across.items ≤ 4)
    left c.reverse.ensures.items c.loop-family.invariant.0).sizes

pub returns-clause-families : goal.returns-clause-families
returns-clause-families g c r k a = ((moved_turned g.R.RoughRegion.id (g.R.RoughRegion.sound r) g.R.RoughRegion.work
    (g.R.RoughRegion.outside r) (g.R.RoughRegion.inside r) (g.R.RoughRegion.crosses r)
    (λ f. f.cell) (λ f. length f.inside.items + length f.across.items ≤ 4)
    (λ k f. IsFamily g.R.RoughRegion.id (g.R.RoughRegion.sound r) g.R.RoughRegion.work
    (g.R.RoughRegion.outside r) (g.R.RoughRegion.inside r) (g.R.RoughRegion.crosses r) k f.cell
    f.inside.items f.across.items)
    c.reverse.new.self.items c.reverse.ensures.items (c.loop-family.invariant.1 r)).families_are k a).1

pub returns-clause-front : goal.returns-clause-front
returns-clause-front g c r al d k sp a fr =
    let none = ended c.loop-family.families.items
    (omega (arith, c.in_default.ensures.cases.0, c.loop-family.families.ok)) in
    subst (λ u. Front g.R.RoughRegion.id (g.R.RoughRegion.sound r) g.R.RoughRegion.work
    (g.R.RoughRegion.outside r) (g.R.RoughRegion.inside r) (g.R.RoughRegion.crosses r)
    (is_outer c.args.kind) al c.args.most d k k sp (map (λ f. f.cell) u ++ map (λ f. f.cell)
    c.reverse.new.self.items) c.loop-family.kept.items c.loop-family.ahead.items) none
    ((moved_turned g.R.RoughRegion.id (g.R.RoughRegion.sound r) g.R.RoughRegion.work
    (g.R.RoughRegion.outside r) (g.R.RoughRegion.inside r) (g.R.RoughRegion.crosses r)
    (λ f. f.cell) (λ f. length f.inside.items + length f.across.items ≤ 4)
    (λ k f. IsFamily g.R.RoughRegion.id (g.R.RoughRegion.sound r) g.R.RoughRegion.work
    (g.R.RoughRegion.outside r) (g.R.RoughRegion.inside r) (g.R.RoughRegion.crosses r) k f.cell
    f.inside.items f.across.items)
    c.reverse.new.self.items c.reverse.ensures.items (c.loop-family.invariant.1 r)).front al d k sp a fr)
