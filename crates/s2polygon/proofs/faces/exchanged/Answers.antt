use Rattle.s2polygon.proofs.Borders.{exchanged_is}
use Rattle.s2polygon.proofs.faces.exchanged.Goals as goal

pub returns : goal.returns
returns c = exchanged_is c.args.tops c.args.odd
