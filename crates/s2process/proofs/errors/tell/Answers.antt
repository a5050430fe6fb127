use Rattle.s2process.proofs.ErrorLemmas.{text_given}
use Rattle.s2process.proofs.errors.tell.Goals as goal

pub returns : goal.returns
returns g c =
    let e = c.emit.ensures in
    text_given c.args.errors.now c.emit.new.writer c.args.text.now c.emit.result e.ok e.err e.none_failed e.failed
