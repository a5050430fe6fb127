use Rattle.s2cell.proofs.TableEntries.{leaf_step_is}
use Rattle.s2cell.proofs.tables.leaf_step.Goals as goal

pub returns : goal.returns
returns c = leaf_step_is c.args.shift c.args.quadrant c.requires.shift c.requires.orientation c.requires.quadrant
