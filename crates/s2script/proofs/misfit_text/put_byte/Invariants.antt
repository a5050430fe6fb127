use Rattle.std.proofs.Common.{◌≡◌, ◌≤◌, ℕ, List, ◌++◌, encode_utf8_all}
use Rattle.std.specs.Fmt.{WritesInCalls}
use Rattle.std.specs.Char.Escape.{escape_ascii}
use Rattle.std.specs.Char.Iter.{escape_byte_rest, escape_byte_left, escape_byte_end}
use Rattle.s2script.proofs.misfit_text.put_byte.Given as goal

-- what is put so far, and what is left of the escape
abbrev pub invariant-escape : goal.invariant-escape
invariant-escape g l =
    (escape_byte_end l.rest ≤ 4)
    × ((done : List ℕ) × WritesInCalls g.T.TextSink.puts l.fn.text done l.text
    × (done ++ encode_utf8_all (escape_byte_rest l.rest) ≡ encode_utf8_all (escape_ascii l.byte)))

abbrev pub decreases-escape : goal.decreases-escape
decreases-escape g l = escape_byte_left l.rest
