use Rattle.s2polygon.proofs.Tests.{meets_decides}
use Rattle.s2polygon.proofs.laws.law_of_tests.Goals as goal

pub returns : goal.returns
returns c = meets_decides
