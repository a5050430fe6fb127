use Rattle.s2polygon.proofs.Parts.{says_part}
use Rattle.s2polygon.proofs.quadrant.PolygonCellQuadrant.part.Goals as goal

pub returns : goal.returns
returns c =
    let cell = c.args.self.now.placed in
    let known = c.args.self.now.known in
    let says = says_part c.args.self.now.polygon.now cell.cell cell.square.face cell.square.i cell.square.j
    cell.square.size
    known c.requires.1 c.is_bare.result c.is_bare.ensures in
    let is = c.part_of.ensures in
    record { out = rw is says.out; inside = rw is says.inside; none = rw is says.none; all = rw is says.all }
