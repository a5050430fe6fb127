use Rattle.s2calc.proofs.questions.compares.Goals as goal

pub returns-in-Covers : goal.returns-in-Covers
returns-in-Covers c = rw c.in-Covers.is c.covers.ensures

pub returns-in-Meets : goal.returns-in-Meets
returns-in-Meets c = rw c.in-Meets.is c.meets.ensures
