use Rattle.s2list.proofs.Items.{denormalised_is, length-denormalised-le}
use Rattle.s2union.proofs.union.CellUnion.denormalized.Goals as goal

pub returns-clause-meaning : goal.returns-clause-meaning
returns-clause-meaning c =
    rw (c.over.ensures, c.new.ensures.min, c.new.ensures.modulus, c.cells.ensures.value)
    (denormalised_is c.args.min c.args.modulus c.args.self.now.cells c.cells.ensures.local.cells c.requires.some)

pub returns-clause-most : goal.returns-clause-most
returns-clause-most c =
    rw (c.over.ensures, c.new.ensures.min, c.new.ensures.modulus, c.cells.ensures.value)
    (length-denormalised-le c.args.min c.args.modulus c.args.self.now.cells c.cells.ensures.local c.requires.some)
