use Rattle.std.proofs.Common.{List, map}
use Rattle.std.proofs.lemmas.Result.{MatchResult-weaker}
use Rattle.s2edit.specs.Diff.{Diff}
use Rattle.s2edit.specs.Content.{diff_of}
use Rattle.s2edit.specs.Working.InTurn.{of_register, FitInTurn}
use Rattle.s2edit.proofs.Following.{fails}
use Rattle.s2edit.proofs.Turns.{part_needs, part_gives}
use Rattle.s2edit.proofs.restore.fitting.follow.Goals as goal

pub returns : goal.returns
returns c =
    let ds : List Diff = of_register c.args.register (map diff_of c.args.moves.now) in
    let u = c.args.union.now.cells in
    let part = c.in_ok-part.part.cells in
    MatchResult-weaker c.follow_batches-2.result c.follow_batches-2.ensures
    (λ done f. part_gives ds u part c.in_ok-part.ensures f)
    (λ fault. fails fault (FitInTurn part ds) (FitInTurn u ds) (part_needs ds u part c.in_ok-part.ensures))
