use Rattle.s2calc.proofs.CallLemmas.{flushed_if_ok_may}
use Rattle.s2calc.proofs.flushing.PromptlyFlushingAnswerBuffer.at_the_end.Goals as goal

pub returns-clause-calls : goal.returns-clause-calls
returns-clause-calls g c = flushed_if_ok_may _ _ _ c.flush_buffer.result c.flush_buffer.ensures.calls
