use Rattle.s2polygon.proofs.Sides.{size_most}
use Rattle.s2polygon.proofs.places.size_of.Goals as goal

pub returns-clause-most : goal.returns-clause-most
returns-clause-most c = size_most c.args.k c.requires.k
