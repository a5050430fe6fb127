use Rattle.s2polygon.proofs.Turned.{inner_turned, outer_turned, touched_turned}
use Rattle.s2polygon.proofs.laws.law_of_directions.Goals as goal

pub returns-clause-touched : goal.returns-clause-touched
returns-clause-touched c = touched_turned

pub returns-clause-outer : goal.returns-clause-outer
returns-clause-outer c r ring x h l o away = outer_turned r ring h x l o away

pub returns-clause-inner : goal.returns-clause-inner
returns-clause-inner c r ring x h l o away = inner_turned r ring h x l o away
