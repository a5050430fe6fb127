use Rattle.s2file.proofs.Beginnings.{longest, file_begins, fault_begins}
use Rattle.s2file.proofs.laws.beginning_decides.Goals as goal

pub returns-clause-longest : goal.returns-clause-longest
returns-clause-longest c = longest

pub returns-clause-file : goal.returns-clause-file
returns-clause-file c = file_begins

pub returns-clause-fault : goal.returns-clause-fault
returns-clause-fault c = fault_begins
