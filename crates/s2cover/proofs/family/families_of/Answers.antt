use Rattle.std.proofs.Common.{arith, ◌≡◌, ◌+◌, ◌<◌, ◌≤◌, length, ap}
use Rattle.std.specs.Prelude.{Some}
use Rattle.std.proofs.lemmas.List.Elements.{All-pop}
use Rattle.s2cell.specs.Cell.{level_of}
use Rattle.s2cover.specs.Working.Splitting.{IsFamily, times_by}
use Rattle.s2cover.proofs.Splittings.{taken_none, taken_next, popped, ended}
use Rattle.s2cover.proofs.family.families_of.Goals as goal

pub loop-quadrant-init : goal.loop-quadrant-init
loop-quadrant-init g c =
    let r = c.args.region.now in
    taken_none g.R.RoughRegion.id (g.R.RoughRegion.sound r) g.R.RoughRegion.work
    (g.R.RoughRegion.outside r) (g.R.RoughRegion.inside r) (g.R.RoughRegion.crosses r)
    (λ f. f.cell) (λ f. length f.inside.items + length f.across.items ≤ 4)
    (λ k f. IsFamily g.R.RoughRegion.id (g.R.RoughRegion.sound r) g.R.RoughRegion.work
    (g.R.RoughRegion.outside r) (g.R.RoughRegion.inside r) (g.R.RoughRegion.crosses r) k f.cell
    f.inside.items f.across.items)
    c.new-families.ensures.items c.requires

pub family_of-requires : goal.family_of-requires
family_of-requires g c =
    let w = (All-pop (λ q. g.R.RoughRegion.sound c.args.region.now q × (level_of (g.R.RoughRegion.id q) < 30))
    c.loop-quadrant.ahead.items c.pop.new.self.items (Some c.in-Some.quadrant) c.in-Some.ensures.items
    c.loop-quadrant.invariant.right).1 in
    record { sound = w.0; deep = w.1 }

pub loop-quadrant-smaller : goal.loop-quadrant-smaller
loop-quadrant-smaller g c = popped c.loop-quadrant.ahead.items c.pop.new.self.items c.in-Some.quadrant
    c.in-Some.ensures.items

pub loop-quadrant-preserved : goal.loop-quadrant-preserved
loop-quadrant-preserved g c =
    let r = c.args.region.now in
    taken_next g.R.RoughRegion.id (g.R.RoughRegion.sound r) g.R.RoughRegion.work
    (g.R.RoughRegion.outside r) (g.R.RoughRegion.inside r) (g.R.RoughRegion.crosses r)
    (λ f. f.cell) (λ f. length f.inside.items + length f.across.items ≤ 4)
    (λ k f. IsFamily g.R.RoughRegion.id (g.R.RoughRegion.sound r) g.R.RoughRegion.work
    (g.R.RoughRegion.outside r) (g.R.RoughRegion.inside r) (g.R.RoughRegion.crosses r) k f.cell
    f.inside.items f.across.items)
    c.pop.new.self.items c.add.new.list.items c.in-Some.quadrant c.in_ok-family.family c.in-Some.ensures.items
    c.in_ok-add.ensures c.in_ok-family.ensures.cell c.in_ok-family.ensures.few c.in_ok-family.ensures.family
    c.loop-quadrant.invariant

pub returns-clause-empty : goal.returns-clause-empty
returns-clause-empty g c =
    ended c.pop.new.self.items (omega (arith, c.in_default.ensures.cases.1, c.pop.new.self.ok))

pub returns-clause-len : goal.returns-clause-len
returns-clause-len g c =
    let l = c.loop-quadrant.invariant.len in
    omega (arith, c.in_default.ensures.cases.0, c.loop-quadrant.ahead.ok)

pub returns-clause-few : goal.returns-clause-few
returns-clause-few g c = c.loop-quadrant.invariant.few

pub returns-clause-times : goal.returns-clause-times
returns-clause-times g c x =
    let none = ended c.loop-quadrant.ahead.items
    (omega (arith, c.in_default.ensures.cases.0, c.loop-quadrant.ahead.ok)) in
    let z : times_by g.R.RoughRegion.id c.loop-quadrant.ahead.items x ≡ 0 =
    ap (λ u. times_by g.R.RoughRegion.id u x) none in
    let s = c.loop-quadrant.invariant.same x in
    omega arith

pub returns-clause-families : goal.returns-clause-families
returns-clause-families g c k a = (c.loop-quadrant.invariant.families_are k a).1
