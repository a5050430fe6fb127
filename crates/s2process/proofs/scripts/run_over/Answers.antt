use Rattle.std.proofs.Common.{refl, ap, ◌∙◌}
use Rattle.std.specs.Prelude.{not}
use Rattle.s2process.specs.Errors.{fault_line_of}
use Rattle.s2process.specs.Listed.{taken, called}
use Rattle.s2process.proofs.ErrorLemmas.{given_first}
use Rattle.s2process.proofs.scripts.run_over.Goals as goal

pub returns : goal.returns
returns g c = λ path explains at stopped_is.
    let ran = c.run_listed-result.ensures in
    let last = c.run_listed-result.new in
    let more = rw c.into_writer-errors.ensures at c.end_run-status.ensures.tells in
    rw c.into_writer.ensures (record {
      first = c.args.folder;
      last = last.shelf;
      at_path = at;
      folder_is = refl;
      now = last.editor;
      waiting = last.writer.waiting;
      result = c.run_listed-result.result;
      runs = ran.0;
      tells = λ no.
          let none = ran.2 (stopped_is ∙ ap not no) in
          given_first last.notes.writer c.end_run-status.new.errors (fault_line_of c.run_listed-result.result) none.0
          none.1 more;
      tells_notes = λ yes. record {
        notes = taken last.notes.writer;
        noted = called last.notes.writer;
        stopped = last.notes.stopped;
        explains = ran.1 (stopped_is ∙ ap not yes);
        bytes = more.bytes;
        calls = more.calls;
        taken_are = more.taken_are;
        called_are = more.called_are;
        tells = more.tells;
      };
      status_is = c.end_run-status.ensures.status;
    })
