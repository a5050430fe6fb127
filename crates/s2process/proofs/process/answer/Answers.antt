use Rattle.std.proofs.Common.{refl, ap}
use Rattle.s2calc.specs.Program.{cell_reply}
use Rattle.s2process.proofs.ShownLemmas.{reply_shown}
use Rattle.s2process.proofs.ProgramLemmas.{answers}
use Rattle.s2process.proofs.process.answer.Goals as goal

pub returns-in-Ok : goal.returns-in-Ok
returns-in-Ok g c = rw c.in-Run.is (rw (c.in-Ok.ensures, c.as_str.ensures.value) at c.run_script.ensures)

pub returns-in-Cell : goal.returns-in-Cell
returns-in-Cell g c =
    let answer = c.cell_answer-outcome.ensures in
    let ends = c.end_answer.ensures in
    rw c.in-Cell.is (
      (c.args.folders, ends.folder_is),
      answers c.args.streams c.requires.nothing_called ends refl refl (cell_reply c.as_bytes.result.now)
          (ap cell_reply c.as_bytes.ensures.value) (reply_shown (cell_reply c.as_bytes.result.now) _ _
          c.cell_answer-outcome.result answer.ok answer.named answer.err answer.fault) answer.flushed answer.failed,
    )

pub returns-in-DrawCells : goal.returns-in-DrawCells
returns-in-DrawCells g c =
    let answer = c.draw_cells_answer-outcome.ensures in
    let ends = c.end_answer-in-DrawCells.ensures in
    rw c.in-DrawCells.is (
      (c.args.folders, ends.folder_is),
      answers c.args.streams c.requires.nothing_called ends refl refl answer.answer.reply
          (rw c.as_slice.ensures.value at answer.answer.draws) answer.answer.tells answer.flushed answer.failed,
    )
