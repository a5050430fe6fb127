use Rattle.std.proofs.Common.{refl, ap}
use Rattle.s2calc.specs.Replies.{Says}
use Rattle.s2process.proofs.ProgramLemmas.{answers}
use Rattle.s2process.proofs.process.answer_stop.Goals as goal

pub returns-in-Help : goal.returns-in-Help
returns-in-Help g c =
    let said = c.say-outcome.ensures in
    let ends = c.end_answer.ensures in
    rw c.in-Help.is (
      (c.args.folders, ends.folder_is),
      answers c.args.streams c.requires.nothing_called ends refl refl (Says c.as_bytes.result.now)
          (ap Says c.as_bytes.ensures.value) said.shows said.flushed said.failed,
    )
