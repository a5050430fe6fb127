use Rattle.std.proofs.Common.{refl}
use Rattle.s2calc.proofs.NoteLemmas.{WritesNotes-stopped, WritesNotes-wrote, WritesNotes-failed}
use Rattle.s2calc.proofs.notes.pass.Goals as goal

pub returns-then-stopped : goal.returns-then-stopped
returns-then-stopped g c = WritesNotes-stopped _ _ c.if-stopped.true

pub returns-in-Ok : goal.returns-in-Ok
returns-in-Ok g c = WritesNotes-wrote _ _ _ c.if-stopped.false c.if-stopped.false c.in-Ok.ensures.ok
    c.in-Ok.ensures.none_failed

pub returns-in-Err : goal.returns-in-Err
returns-in-Err g c = WritesNotes-failed _ _ _ c.if-stopped.false refl c.in-Err.ensures.err c.in-Err.ensures.failed
