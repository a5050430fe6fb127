use Rattle.std.proofs.Common.{◌≡◌, ◌<◌, arith, length}
use Rattle.s2cell.specs.Cell.{child_of}
use Rattle.s2cover.specs.Coverings.{LiesOutside}
use Rattle.s2written.proofs.Remaining.{outside_same, remain_next}
use Rattle.s2written.proofs.together.children_of.Goals as goal

pub loop-k-preserved : goal.loop-k-preserved
loop-k-preserved g c =
    let all = c.args.quadrants.now in
    let q = c.index-quadrants-k.result in
    let child = c.in_ok-child.child in
    let e = c.in_ok-child.ensures in
    let t = c.loop-k-test.true in
    let l : c.loop-k.k < length all = omega (arith, t) in
    remain_next (λ q. LiesOutside (g.Q.Quadrant.outer q) (child_of (g.Q.Quadrant.id q) c.args.digit))
    (λ q p. g.Q.Quadrant.sound p × (g.Q.Quadrant.id p ≡ child_of (g.Q.Quadrant.id q) c.args.digit)
    × (g.Q.Quadrant.outer p ≡ g.Q.Quadrant.outer q) × (g.Q.Quadrant.inner p ≡ g.Q.Quadrant.inner q)
    × (g.Q.Quadrant.work p ≡ g.Q.Quadrant.work q)) all c.loop-k.k _ q c.loop-k.children.items c.keep.new.list.items
    child (LiesOutside (g.Q.Quadrant.outer child) (g.Q.Quadrant.id child)) l c.index-quadrants-k.is
    (outside_same (g.Q.Quadrant.outer child) (g.Q.Quadrant.outer q) (g.Q.Quadrant.id child)
    (child_of (g.Q.Quadrant.id q) c.args.digit) e.outer e.cell) (e.sound, e.cell, e.outer, e.inner, e.work)
    c.in_ok-keep.ensures c.loop-k.invariant
