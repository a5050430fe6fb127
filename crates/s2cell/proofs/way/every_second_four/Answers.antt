use Rattle.std.proofs.Common.{refl}
use Rattle.s2cell.specs.Working.Entries.{fours}
use Rattle.s2cell.proofs.way.every_second_four.Goals as goal

pub returns : goal.returns
unfolding fours
returns c = refl
