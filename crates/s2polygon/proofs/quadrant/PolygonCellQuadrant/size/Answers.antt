use Rattle.std.proofs.Common.{arith}
use Rattle.s2polygon.proofs.Quartering.{known_met}
use Rattle.s2polygon.proofs.quadrant.PolygonCellQuadrant.size.Goals as goal

pub returns : goal.returns
returns c =
    let p = c.args.self.now.placed in
    let met = known_met c.args.self.now.polygon.now p.cell p.square.face p.square.i p.square.j p.square.size
    c.args.self.now.known c.requires.1 in
    omega (arith, c.len.ensures, c.args.self.now.known.edges.ok, met)
