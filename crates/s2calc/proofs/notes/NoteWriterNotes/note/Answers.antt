use Rattle.s2calc.proofs.NoteLemmas.{puts_text}
use Rattle.s2calc.proofs.notes.NoteWriterNotes.note.Goals as goal

pub returns : goal.returns
returns g c = rw (← c.self.view_is) (puts_text g.W.Sink.contents g.W.Sink.calls c.self.inside.notes
    c.put_note.new.text _ _ c.self.invariant c.put_note.ensures c.pass_on.ensures.passes)
