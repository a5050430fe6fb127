use Rattle.s2session.proofs.Spelled.{one_spelled}
use Rattle.s2session.proofs.laws.one_session.Goals as goal

pub returns : goal.returns
returns c = one_spelled
