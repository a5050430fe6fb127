use Rattle.s2calc.proofs.NoteLemmas.{WritesNotes-answered}
use Rattle.s2calc.proofs.notes.note.Goals as goal

pub returns-in_default : goal.returns-in_default
returns-in_default g c = λ reply is. WritesNotes-answered _ _ _ _ reply c.in_default.not-Refused is
