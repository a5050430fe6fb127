use Rattle.std.proofs.Common.{[], ◌++◌, sym, ap, ◌∙◌, append-nil}
use Rattle.s2calc.proofs.NoteLemmas.{WritesNotes-none}
use Rattle.s2calc.proofs.notes.NoteTextTextSink.put.Goals as goal

pub returns-in-Ok : goal.returns-in-Ok
returns-in-Ok g c = ([], sym c.in-Ok.ensures.items, WritesNotes-none _)

pub returns-in-Err : goal.returns-in-Err
returns-in-Err g c =
    let all = c.args.self.now.waiting.items ++ c.args.part.now in (
      all,
      sym (ap (λ s. all ++ s) c.pass_with.ensures.nothing_waits ∙ append-nil all),
      rw c.in-Err.ensures.items at c.pass_with.ensures.passes,
    )
