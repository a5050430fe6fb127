use Rattle.std.proofs.Output.{writes_in_calls_single}
use Rattle.s2script.proofs.text.put_part.Goals as goal

pub returns : goal.returns
returns g c = writes_in_calls_single g.T.TextSink.puts _ _ _ c.put.ensures
