use Rattle.s2calc.proofs.SettledLemmas.{settles_flush}
use Rattle.s2calc.proofs.flushing.PromptlyFlushingAnswerBuffer.in_between.Goals as goal

pub returns : goal.returns
returns g c =
    let done = c.flush_buffer.ensures in
    record {
      settles = settles_flush _ _ _ _ _ _ c.flush_buffer.result tt done.kept done.calls done.sent done.fault;
    }
