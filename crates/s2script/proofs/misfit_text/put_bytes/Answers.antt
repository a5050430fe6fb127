use Rattle.std.proofs.Common.{arith}
use Rattle.std.proofs.lemmas.Grind.{common_steps}
use Rattle.s2script.proofs.TextLemmas.{two_parts}
use Rattle.s2script.proofs.misfit_text.put_bytes.Goals as goal

pub loop-byte-preserved : goal.loop-byte-preserved
loop-byte-preserved g c = two_parts g.T.TextSink.puts _ _ _ _ _ _ c.loop-byte.invariant c.put_byte.ensures
    (grind (arith, common_steps))
