use Rattle.std.proofs.Common.{refl, inr}
use Rattle.s2process.proofs.ProgramLemmas.{answers}
use Rattle.s2process.proofs.answers.answer_of_files.Goals as goal

pub returns : goal.returns
returns g c =
    let answer = c.ask-outcome.ensures in
    let ends = rw c.names.ensures at c.end_answer.ensures in inr (
      c.in-Ok.folder,
      c.ask-outcome.new.folder,
      c.in-Ok.ensures,
      ends.folder_is,
      answers c.args.streams c.requires ends refl refl answer.answer.0 answer.answer.1 answer.answer.2 answer.flushed
          answer.failed,
    )
