use Rattle.s2polygon.proofs.Parts.{says_part}
use Rattle.s2polygon.proofs.polygon.Polygon.part.Goals as goal

pub returns-clause-out : goal.returns-clause-out
returns-clause-out c =
    let k = c.in_ok-known.ensures in
    let says = says_part c.args.self.now c.args.cell k.face k.i k.j k.size c.in_ok-known.known k.is c.is_bare.result
    c.is_bare.ensures in
    let is = c.part_of.ensures in
    rw is says.out

pub returns-clause-inside : goal.returns-clause-inside
returns-clause-inside c =
    let k = c.in_ok-known.ensures in
    let says = says_part c.args.self.now c.args.cell k.face k.i k.j k.size c.in_ok-known.known k.is c.is_bare.result
    c.is_bare.ensures in
    let is = c.part_of.ensures in
    rw is says.inside
