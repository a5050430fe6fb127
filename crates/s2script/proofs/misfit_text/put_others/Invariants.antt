use Rattle.std.proofs.Common.{◌≡◌, List, ℕ, ◌++◌, length, filter, flat_map}
use Rattle.std.specs.Fmt.{WritesInCalls}
use Rattle.s2script.specs.Similar.{is_like}
use Rattle.s2script.specs.MisfitTexts.{other_text}
use Rattle.s2script.proofs.misfit_text.put_others.Given as goal

-- what is put so far, and what is left of the names
abbrev pub invariant-loop-name : goal.invariant-loop-name
invariant-loop-name g l =
    (done : List ℕ) × WritesInCalls g.T.TextSink.puts l.fn.text done l.text
    × (done ++ flat_map other_text (filter (is_like l.word) l.names)
    ≡ flat_map other_text (filter (is_like l.word) l.fn.names))

abbrev pub decreases-loop-name : goal.decreases-loop-name
decreases-loop-name g l = length (filter (is_like l.word) l.names)
