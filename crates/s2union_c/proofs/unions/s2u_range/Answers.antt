use Rattle.std.proofs.Common.{ap, arith, length}
use Rattle.s2list.proofs.Lengths.{range_few}
use Rattle.s2union_c.proofs.Placed.{made_length}
use Rattle.s2union_c.proofs.unions.s2u_range.Goals as goal

pub returns-in-Ok-clause-most : goal.returns-in-Ok-clause-most
returns-in-Ok-clause-most c =
    let few = range_few _ _ c.in-Ok.ensures.normal in
    let same = ap length c.cells.ensures.value in
    omega (arith, made_length c.put_cells.ensures, few, same)
