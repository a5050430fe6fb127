use Rattle.s2edit.proofs.OneEnd.{Ran-one}
use Rattle.s2edit.proofs.SetRuns.{EditRun-one_of_sets}
use Rattle.s2edit.proofs.laws.law_of_runs.Goals as goal

pub returns : goal.returns
returns c = record { one_end = Ran-one; one_end_of_sets = EditRun-one_of_sets }
