use Rattle.s2map.proofs.Meanings.{met}
use Rattle.s2map.proofs.laws.law_of_meetings.Goals as goal

pub returns : goal.returns
returns c = met
