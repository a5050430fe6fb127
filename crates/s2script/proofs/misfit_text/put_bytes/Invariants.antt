use Rattle.std.proofs.Common.{flat_map, take}
use Rattle.std.specs.Fmt.{WritesInCalls}
use Rattle.s2script.specs.MisfitTexts.{shown_byte}
use Rattle.s2script.proofs.misfit_text.put_bytes.Given as goal

-- the bytes so far are put
abbrev pub invariant-loop-byte : goal.invariant-loop-byte
invariant-loop-byte g l =
    WritesInCalls g.T.TextSink.puts l.initial.text (flat_map shown_byte (take l.byte-index l.bytes)) l.text
