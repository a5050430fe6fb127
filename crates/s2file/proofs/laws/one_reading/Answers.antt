use Rattle.s2file.proofs.Files.{same_leaves, no_fault, one_fault, not_framed, one_frame_fault}
use Rattle.s2file.proofs.laws.one_reading.Goals as goal

pub returns-clause-leaves : goal.returns-clause-leaves
returns-clause-leaves c = same_leaves

pub returns-clause-no_fault : goal.returns-clause-no_fault
returns-clause-no_fault c = no_fault

pub returns-clause-one_fault : goal.returns-clause-one_fault
returns-clause-one_fault c = one_fault

pub returns-clause-framed : goal.returns-clause-framed
returns-clause-framed c = not_framed

pub returns-clause-one_frame_fault : goal.returns-clause-one_frame_fault
returns-clause-one_frame_fault c = one_frame_fault
