use Rattle.std.proofs.Common.{arith, length, ap}
use Rattle.std.proofs.lemmas.List.{length-take-le}
use Rattle.s2cell.specs.CutLevels.{cells_in}
use Rattle.s2cell.proofs.Cutting.{length-cells_in}
use Rattle.s2list.proofs.denormalising.DescendantsListed.len.Goals as goal

pub returns : goal.returns
returns c =
    let most = c.self.invariant.2 in
    let len = length-cells_in c.self.inside.level c.self.inside.cell in
    let some = length-take-le c.self.inside.count (cells_in c.self.inside.level c.self.inside.cell) (omega arith) in
    let view = ap length c.self.view_is in
    omega arith
