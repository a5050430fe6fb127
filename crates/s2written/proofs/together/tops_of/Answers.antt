use Rattle.std.proofs.Common.{◌≡◌, ◌∙◌, ◌<◌, arith, length, subst, sym}
use Rattle.s2cell.specs.Cell.{IsCell, level_of, place_of}
use Rattle.s2cover.specs.Coverings.{LiesOutside}
use Rattle.s2written.proofs.Remaining.{outside_same, remain_next, same_face}
use Rattle.s2written.proofs.together.tops_of.Goals as goal

pub loop-k-preserved : goal.loop-k-preserved
loop-k-preserved g c =
    let all = c.args.parts.now in
    let r = c.index-parts-k.result in
    let top = c.in_ok-top.top in
    let e = c.in_ok-top.ensures in
    let t = c.loop-k-test.true in
    let l : c.loop-k.k < length all = omega (arith, t) in
    let own = c.cell.result in
    let i : IsCell own = (level_of own, place_of own, c.id.ensures.cell) in
    let same : g.R.At.Quadrant.id top ≡ c.args.cell = same_face (g.R.At.Quadrant.id top) c.args.cell
    (subst IsCell c.cell.ensures i) c.requires.cell e.level c.requires.level (e.face ∙ sym c.requires.same) in
    remain_next (λ r. LiesOutside (g.R.Quartered.outer r) c.args.cell)
    (λ r q. g.R.At.Quadrant.sound q × (g.R.At.Quadrant.id q ≡ c.args.cell)
    × (g.R.At.Quadrant.outer q ≡ g.R.Quartered.outer r) × (g.R.At.Quadrant.inner q ≡ g.R.Quartered.inner r)
    × (g.R.At.Quadrant.work q ≡ g.R.Quartered.work r)) all c.loop-k.k _ r c.loop-k.tops.items c.keep.new.list.items top
    (LiesOutside (g.R.At.Quadrant.outer top) (g.R.At.Quadrant.id top)) l c.index-parts-k.is
    (outside_same (g.R.At.Quadrant.outer top) (g.R.Quartered.outer r) (g.R.At.Quadrant.id top) c.args.cell e.outer same)
    (e.sound, same, e.outer, e.inner, e.work) c.in_ok-keep.ensures c.loop-k.invariant
