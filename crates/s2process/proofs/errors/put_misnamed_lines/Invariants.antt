use Rattle.std.proofs.Common.{take, map}
use Rattle.std.specs.Fmt.{WritesInCalls}
use Rattle.std.specs.Prelude.{string_bytes}
use Rattle.s2process.specs.Errors.{misnamed_lines}
use Rattle.s2process.proofs.errors.put_misnamed_lines.Given as goal

-- the lines on the words so far
abbrev pub invariant-loop-word : goal.invariant-loop-word
invariant-loop-word g l =
    WritesInCalls g.T.TextSink.puts l.initial.text (misnamed_lines (map string_bytes (take l.word-index l.words)))
    l.text
