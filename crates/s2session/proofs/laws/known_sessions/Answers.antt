use Rattle.std.proofs.Common.{refl}
use Rattle.s2list.specs.Numbers.{number_text}
use Rattle.s2session.proofs.laws.known_sessions.Goals as goal

pub returns-clause-untouched : goal.returns-clause-untouched
unfolding number_text
returns-clause-untouched c = refl

pub returns-clause-one_change : goal.returns-clause-one_change
unfolding number_text
returns-clause-one_change c = refl

pub returns-clause-one_change_begins : goal.returns-clause-one_change_begins
unfolding number_text
returns-clause-one_change_begins c = refl

pub returns-clause-one_change_ends : goal.returns-clause-one_change_ends
unfolding number_text
returns-clause-one_change_ends c = refl
