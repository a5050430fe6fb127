use Rattle.std.proofs.Common.{arith, ◌≡◌, ◌∙◌, ◌/◌, ◌^◌, sym}
use Rattle.s2cover.proofs.Splittings.{sorting_none, sorting_next, face_leaf, leaf_face, entered}
use Rattle.s2cover.proofs.splitting.enter.Goals as goal

pub loop-face-init : goal.loop-face-init
loop-face-init g c =
    let r = c.args.region.now in
    sorting_none g.R.RoughRegion.id (g.R.RoughRegion.sound r) g.R.RoughRegion.work
    (g.R.RoughRegion.outside r) (g.R.RoughRegion.inside r) (g.R.RoughRegion.crosses r)
    (λ m x. x / 4 ^ 30 ≡ m) 0 c.requires.kept c.requires.ahead

pub loop-face-preserved : goal.loop-face-preserved
loop-face-preserved g c =
    let r = c.args.region.now in
    let top = c.in_ok-top in
    let s = c.in_ok-sort_in.ensures in
    let lv = top.ensures.level in
    sorting_next g.R.RoughRegion.id (g.R.RoughRegion.sound r) g.R.RoughRegion.work
    (g.R.RoughRegion.outside r) (g.R.RoughRegion.inside r) (g.R.RoughRegion.crosses r)
    c.sort_in.new.inside.items c.sort_in.new.across.items top.top
    (λ x e. face_leaf x c.sort_in.ensures.cell lv top.ensures.face e)
    (λ x v. leaf_face x c.sort_in.ensures.cell lv top.ensures.face v)
    (λ m x b e d. let s = sym e ∙ d in omega arith) lv (λ d idd l into. absurd (omega arith)) s.leaves s.others s.times
    s.inside s.across s.few c.loop-face.invariant

pub returns-clause-few : goal.returns-clause-few
returns-clause-few g c =
    let a = c.loop-face.invariant.few in
    let b = c.loop-face.auto.face-end in
    omega arith

pub returns-clause-front : goal.returns-clause-front
returns-clause-front g c whole al most deepest =
    let r = c.args.region.now in
    let six : c.loop-face.face ≡ 6 = (let f = c.loop-face-test.false in let e = c.loop-face.auto.face-end in
    omega arith) in
    entered g.R.RoughRegion.id (g.R.RoughRegion.sound r) g.R.RoughRegion.work
    (g.R.RoughRegion.outside r) (g.R.RoughRegion.inside r) (g.R.RoughRegion.crosses r) six
    c.loop-face.invariant
