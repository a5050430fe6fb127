use Rattle.s2process.proofs.errors.tell_of_answer.Goals as goal

pub returns-in-Ok : goal.returns-in-Ok
returns-in-Ok g c = rw c.in-Ok.is c.tell_of_refusal.ensures
