use Rattle.std.proofs.lemmas.Bool.Decides.{same_from_decides}
use Rattle.s2polygon.specs.Tests.{meets_square}
use Rattle.s2polygon.proofs.Tests.{meets_decides}
use Rattle.s2polygon.proofs.meeting.is_met.Goals as goal

pub meets-requires-clause-edge : goal.meets-requires-clause-edge
meets-requires-clause-edge c = c.requires.edge

pub meets-requires-clause-square : goal.meets-requires-clause-square
meets-requires-clause-square c = c.requires.square

pub returns : goal.returns
returns c =
    same_from_decides c.meets.result (meets_square c.args.q c.args.e) c.meets.ensures
    (meets_decides c.args.q c.args.e c.requires.square.wide c.requires.square.high)
