use Rattle.s2polygon.proofs.Quartering.{face_known}
use Rattle.s2polygon.proofs.quadrant.WalkedQuartered.face.Goals as goal

pub returns-clause-sound : goal.returns-clause-sound
returns-clause-sound c = (
  c.face.ensures.placed,
  face_known c.self.inside.polygon.now c.face.result c.args.face c.in_ok-known.known c.face.ensures.placed
      c.face.ensures.level
      c.face.ensures.face c.in_ok-known.ensures.right c.in_ok-known.ensures.within,
)
