use Rattle.s2calc.proofs.NoteLemmas.{WritesNotes-unknown}
use Rattle.s2calc.proofs.notes.NoNotesNotes.note.Goals as goal

pub returns : goal.returns
returns c = WritesNotes-unknown _
