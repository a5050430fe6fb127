use Rattle.std.proofs.Common.{arith}
use Rattle.std.proofs.lemmas.Bool.{ltb-true}
use Rattle.s2polygon.specs.Leaves.{inner_leaf, outer_leaf}
use Rattle.s2polygon.proofs.Countings.{in_all, past_face, to_face}
use Rattle.s2polygon.proofs.polygon.Polygon.touches_more.Goals as goal

pub count_crossing-requires-clause-counted : goal.count_crossing-requires-clause-counted
count_crossing-requires-clause-counted c =
    let top = c.in_ok-top in
    to_face c.args.level top.top.placed.cell c.loop-face.face c.loop-face.n top.ensures.outer top.ensures.inner
    top.ensures.level top.ensures.face c.loop-face.invariant.1

pub returns-then-n-limit : goal.returns-then-n-limit
returns-then-n-limit c more =
    let top = c.in_ok-top in
    let r = c.args.self.now in
    let n = in_all (outer_leaf r) (inner_leaf r) c.args.level c.loop-face.face c.in_ok-n.n c.loop-face-test.true
    (past_face c.args.level top.top.placed.cell c.loop-face.face c.in_ok-n.n top.ensures.outer top.ensures.inner
    top.ensures.level top.ensures.face c.in_ok-n.ensures.counted) in
    let m = ltb-true c.args.limit c.in_ok-n.n more in
    omega arith

pub loop-face-preserved : goal.loop-face-preserved
loop-face-preserved c =
    let top = c.in_ok-top in (
      omega (arith, c.if-n-limit.false),
      past_face c.args.level top.top.placed.cell c.loop-face.face c.in_ok-n.n top.ensures.outer top.ensures.inner
          top.ensures.level top.ensures.face c.in_ok-n.ensures.counted,
    )
