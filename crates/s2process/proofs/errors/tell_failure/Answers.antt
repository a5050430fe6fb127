use Rattle.s2process.proofs.ErrorLemmas.{nothing_given}
use Rattle.s2process.proofs.errors.tell_failure.Goals as goal

pub returns-in-Ok : goal.returns-in-Ok
returns-in-Ok g c = rw c.in-Ok.is (nothing_given c.args.errors.now)

pub returns-in-Err : goal.returns-in-Err
returns-in-Err g c = rw c.in-Err.is c.tell_fault.ensures
