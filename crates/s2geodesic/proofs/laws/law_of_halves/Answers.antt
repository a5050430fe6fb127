use Rattle.s2geodesic.proofs.Before.{opposite_untouched, untouched}
use Rattle.s2geodesic.proofs.laws.law_of_halves.Goals as goal

pub returns-clause-behind : goal.returns-clause-behind
returns-clause-behind c = untouched c.law_of_tests.ensures

pub returns-clause-opposite : goal.returns-clause-opposite
returns-clause-opposite c = opposite_untouched c.law_of_tests.ensures
