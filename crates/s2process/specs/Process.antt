-- What the process did.
use Rattle.std.specs.Prelude.{◌≡◌, ◌≤◌, ◌+◌, ℕ, ◌⊎◌, Bool, true, List, [], ◌++◌, length}
use Rattle.std.specs.Prelude.{Option, Some, Result, Ok, Err, MatchResult}
use Rattle.s2shelf.specs.Shelf.{Files}
use Rattle.s2calc.specs.declared.engine.Tally.{Tally}
use Rattle.s2calc.specs.declared.fault.RunFault.{RunFault}
use Rattle.s2calc.specs.declared.fault.RunFault.TheVariants.{Input, Output}
use Rattle.s2calc.specs.declared.limits.TheConstants.{MOST_WAITING}
use Rattle.s2calc.specs.World.{World}
use Rattle.s2calc.specs.Run.{Did, EndsOrHalts, NoneAfterRefused}
use Rattle.s2calc.specs.Calls.{Call}
use Rattle.s2calc.specs.Buffered.{Buffered}
use Rattle.s2calc.specs.Moments.{Moment, bytes_read, reads_seen, begun_in, ended_in}
use Rattle.s2calc.specs.Order.{EachMay}
use Rattle.s2calc.specs.Reads.{ReadsLast}

module _ {start now : World} {written : List ℕ} (did : Did start now written) {W S : Type 0}
    (moments : List (Moment W S)) where
  -- How many lines began and ended: each that was carried out, but after `Output` the last of them may not have ended,
  -- as its answer wasn't written or a flush after it failed.
  abbrev pub Counts : Result Tally RunFault → Type 0
  Counts (Err Output) = (begun_in moments ≡ length did.done)
      × (((ended_in moments ≡ length did.done) × (did.left ≡ [])) ⊎ (ended_in moments + 1 ≡ length did.done))
  Counts result = (begun_in moments ≡ length did.done) × (ended_in moments ≡ length did.done)

-- What a run did over a reader and a writer that had not been called: `script` is all bytes that the reads gave, and
-- `reads` says how each ended; each of them was seen, and no other. The writer took what was written, except for the
-- bytes that wait in the buffer above it: at most `MOST_WAITING`, and none after `Ok` and `Input`. The run ended as its
-- result says: its script has ended if the last read gave nothing, and there are flushes before the end. If it `stops`
-- at a refused line, it may have been stopped by one, and nothing came after the first of these. Each moment came where
-- it may.
pub record RunsListed {V S : Type 0} (taken : V → List ℕ) (called : V → List Call) (files : S → Files) (stops : Bool)
    (script : List ℕ) (reads : List (Option ℕ)) (start now : World) (moments : List (Moment (Buffered V) S))
    (below : V) (waiting : List ℕ) (result : Result Tally RunFault) : Type 0 where
  pub did : Did start now (taken below ++ waiting)
  pub read : bytes_read moments ≡ script
  pub made : reads_seen moments ≡ reads
  pub ends : EndsOrHalts script (ReadsLast (Some 0) reads) stops (Unit {0}) reads (called below) did result
  pub halts : stops ≡ true → NoneAfterRefused script reads did.replies
  pub none_wait : MatchResult result (λ _. waiting ≡ []) (λ fault. fault ≡ Input → waiting ≡ [])
  pub few_wait : length waiting ≤ MOST_WAITING
  pub each : EachMay (λ buffer bytes. taken buffer.writer ++ buffer.waiting ≡ bytes)
      (λ buffer Holds. Holds (called buffer.writer)) (λ buffer. buffer.waiting ≡ []) files (Unit {0}) start did.replies
      [] moments
  pub counts : Counts did moments result
