use Rattle.s2list.proofs.Normal.{normal_from_local}
use Rattle.s2calc.proofs.fetch.read.Goals as goal

pub returns-in-Ok : goal.returns-in-Ok
returns-in-Ok c = let read = c.in-Ok.ensures in (read.answer, normal_from_local _ read.local)
