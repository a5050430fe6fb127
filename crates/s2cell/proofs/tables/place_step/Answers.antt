use Rattle.s2cell.proofs.TableEntries.{place_step_is, quadrant_held}
use Rattle.s2cell.proofs.tables.place_step.Goals as goal

pub returns-clause-entry : goal.returns-clause-entry
returns-clause-entry c =
    place_step_is c.args.shift c.args.digit c.requires.shift c.requires.orientation c.requires.digit

pub returns-clause-quadrant : goal.returns-clause-quadrant
returns-clause-quadrant c =
    quadrant_held c.args.shift c.args.digit c.requires.shift c.requires.orientation c.requires.digit
