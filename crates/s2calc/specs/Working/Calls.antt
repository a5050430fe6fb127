-- How calls of a reader and of a writer end, for loops and for functions that make some of them.
use Rattle.std.specs.Prelude.{◌≡◌, ℕ, List, length, Option, Result, MatchResult}
use Rattle.s2calc.specs.Calls.{Call, Gained, NoneFailed, LastFailed}
use Rattle.s2calc.specs.Reads.{AllGave}

-- after `Ok` no call failed; after `Err` the last one did, and no other
abbrev pub FailedIfErr : {T E : Type 0} → Type 0 → Option (List Call) → Option (List Call) → Result T E → Type 0
FailedIfErr may_flush old new result =
    MatchResult result (λ _. NoneFailed may_flush old new) (λ _. LastFailed may_flush old new)

-- the reader was read this many times, and each read gave some bytes
abbrev pub ReadsOn : Option (List (Option ℕ)) → Option (List (Option ℕ)) → ℕ → Type 0
ReadsOn old new times = Gained old new (λ reads. AllGave reads × (length reads ≡ times))
