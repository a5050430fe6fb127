-- What a flush does.
use Rattle.std.specs.Prelude.{◌≡◌, ℕ, Bool, true, List, Option, Result, MatchResult}
use Rattle.std.specs.Io.KnownBytes.{Keeps}
use Rattle.s2calc.specs.declared.fault.RunFault.{RunFault}
use Rattle.s2calc.specs.declared.fault.RunFault.TheVariants.{Output}
use Rattle.s2calc.specs.Calls.{Call, NoneFailed, LastFlushed, LastFailed}

-- after `Ok` no call failed, and the last one was a flush; after `Err` the last one failed, and no other
abbrev pub FlushedIfOk : {T E : Type 0} → Type 0 → Option (List Call) → Option (List Call) → Result T E → Type 0
FlushedIfOk may_flush old new result =
    MatchResult result (λ _. LastFlushed may_flush old new) (λ _. LastFailed may_flush old new)

-- between these two writers nothing was written, and no call failed; at a command with a file the last call was a
-- flush, if there are flushes before the end, and nothing waits
pub record Settled {W : Type 0} (contents : W → Option (List ℕ)) (calls : W → Option (List Call))
    (is_sent : W → Type 0) (may_flush : Type 0) (has_file : Bool) (old new : W) : Type 0 where
  pub kept : Keeps (contents old) (contents new)
  pub none_failed : NoneFailed may_flush (calls old) (calls new)
  pub flushed : has_file ≡ true → may_flush → LastFlushed may_flush (calls old) (calls new)
  pub sent : has_file ≡ true → is_sent new

-- between these two writers nothing was written, and the flush at a command with a file failed, since there are flushes
-- before the end
pub record Unsettled {W : Type 0} (contents : W → Option (List ℕ)) (calls : W → Option (List Call))
    (may_flush : Type 0) (has_file : Bool) (old new : W) (fault : RunFault) : Type 0 where
  pub is_output : fault ≡ Output
  pub may : may_flush
  pub asked : has_file ≡ true
  pub kept : Keeps (contents old) (contents new)
  pub failed : LastFailed may_flush (calls old) (calls new)

-- what a flush at a command with a file leaves, or at another line none, by its result
abbrev pub Settles : {W : Type 0} → (W → Option (List ℕ)) → (W → Option (List Call)) → (W → Type 0) → Type 0 → Bool →
    W → W → Result (Unit {0}) RunFault → Type 0
Settles contents calls is_sent may_flush has_file old new result =
    MatchResult result (λ _. Settled contents calls is_sent may_flush has_file old new)
    (Unsettled contents calls may_flush has_file old new)
