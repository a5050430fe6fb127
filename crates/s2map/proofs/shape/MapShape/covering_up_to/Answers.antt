use Rattle.std.proofs.Common.{◌≡◌, arith}
use Rattle.s2map.proofs.Coverings.{next_topped, none_lost}
use Rattle.s2map.proofs.shape.MapShape.covering_up_to.Goals as goal

pub loop-face-preserved : goal.loop-face-preserved
loop-face-preserved c = (
  next_topped c.args.self.now c.args.level c.loop-face.face c.face-top.result.cell c.loop-face.met.items
      c.loop-face.within.items c.visit.new.met.items c.visit.new.within.items c.loop-face.invariant.0
      c.face-top.ensures.cell c.face-top.ensures.level c.face-top.ensures.face c.in_ok-visit.ensures.sorted
      c.in_ok-visit.ensures.keeps_met c.in_ok-visit.ensures.keeps_within c.in_ok-visit.ensures.found,
  c.in_ok-visit.ensures.few,
)

pub returns-clause-outer : goal.returns-clause-outer
returns-clause-outer c =
    let end : c.loop-face.face ≡ 6 = omega arith in
    let topped = c.loop-face.invariant.0 in
    none_lost c.args.self.now c.args.level c.loop-face.met.items c.loop-face.within.items (rw end at topped)

pub returns-clause-inner : goal.returns-clause-inner
returns-clause-inner c n p h = c.loop-face.invariant.0.sorted.are_inside n h p
