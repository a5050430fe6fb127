use Rattle.s2calc.proofs.NoteLemmas.{WritesNotes-more}
use Rattle.s2calc.proofs.notes.NoteText.pass_with.Goals as goal

pub returns-clause-passes : goal.returns-clause-passes
returns-clause-passes g c = WritesNotes-more _ _ _ c.args.self.now.waiting.items c.args.part.now
    c.pass_on.ensures.passes c.pass.ensures
