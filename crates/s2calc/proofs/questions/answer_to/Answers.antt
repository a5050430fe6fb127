use Rattle.s2calc.proofs.questions.answer_to.Goals as goal

pub returns-in-Compares : goal.returns-in-Compares
returns-in-Compares c = rw c.in-Compares.is c.compares.ensures
