use Rattle.std.proofs.Common.{arith}
use Rattle.std.proofs.lemmas.Grind.{common_steps, flat_map-append}
use Rattle.std.proofs.lemmas.List.{map-append}
use Rattle.s2script.proofs.TextLemmas.{two_parts}
use Rattle.s2process.proofs.errors.put_misnamed_lines.Goals as goal

pub loop-word-preserved : goal.loop-word-preserved
loop-word-preserved g c = two_parts g.T.TextSink.puts _ _ _ _ _ _ c.loop-word.invariant c.put_misnamed_line.ensures
    (grind (arith, common_steps, flat_map-append, map-append))
