use Rattle.std.proofs.Common.{false, true}
use Rattle.s2map.proofs.Coverings.{by_box}
use Rattle.s2map.proofs.shape.MapShape.part_of_cell.Goals as goal

pub returns-clause-inside : goal.returns-clause-inside
returns-clause-inside c e =
    by_box c.args.self.now c.args.cell c.of_cell.result true c.are_parts.ensures c.of_cell.ensures.all
    (c.in-Ok.ensures.inside e)

pub returns-clause-outside : goal.returns-clause-outside
returns-clause-outside c e =
    by_box c.args.self.now c.args.cell c.of_cell.result false c.are_parts.ensures c.of_cell.ensures.all
    (c.in-Ok.ensures.outside e)
