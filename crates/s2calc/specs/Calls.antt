-- The calls of a reader and of a writer, as far as they are known, and how they ended.
use Rattle.std.specs.Prelude.{◌≡◌, ℕ, List, [], ◌∷◌, ◌++◌, take, Option, Some, None}
use Rattle.std.specs.Prelude.{Result, Ok, Err}

-- A list that is known afterwards was known before, and has gained these at its end. It may be not known afterwards, as
-- where there is no memory to keep it in; then nothing is said of these, and it is not known at any later time.
abbrev pub Gains : {A : Type 0} → Option (List A) → Option (List A) → List A → Type 0
Gains old None more = Unit {0}
Gains {A} old (Some after) more = (before : List A) × (old ≡ Some before) × (after ≡ before ++ more)

-- a list gained some entries, as far as it is known, and this holds of them
pub record Gained {A : Type 0} (old new : Option (List A)) (Holds : List A → Type 0) : Type 0 where
  pub more : List A
  pub gained : Gains old new more
  pub holds : Holds more

-- a call of a writer: a write that took some bytes, a flush, or one that failed, as a write does that takes nothing
pub data Call : Type 0 where
  Wrote : Call
  Flushed : Call
  Failed : Call

-- none of the calls failed, and if there is a flush among them, then `may_flush`
abbrev pub AllWell : Type 0 → List Call → Type 0
AllWell may_flush [] = Unit {0}
AllWell may_flush (Wrote ∷ calls) = AllWell may_flush calls
AllWell may_flush (Flushed ∷ calls) = may_flush × AllWell may_flush calls
AllWell may_flush (Failed ∷ calls) = ⊥

-- the last call ended so, and no other failed; flushes come before it only if `may_flush`
pub record EndsWith (last : Call) (may_flush : Type 0) (calls : List Call) : Type 0 where
  pub before : List Call
  pub is : calls ≡ before ++ last ∷ []
  pub well : AllWell may_flush before

-- the writer was called some times, and no call failed; flushes are among them only if `may_flush`
abbrev pub NoneFailed : Type 0 → Option (List Call) → Option (List Call) → Type 0
NoneFailed may_flush old new = Gained old new (AllWell may_flush)

-- the writer was called some times and then flushed, and no call failed; flushes come before the last call only if
-- `may_flush`
abbrev pub LastFlushed : Type 0 → Option (List Call) → Option (List Call) → Type 0
LastFlushed may_flush old new = Gained old new (EndsWith Flushed may_flush)

-- the last call of the writer failed, and no other did; flushes come before it only if `may_flush`
abbrev pub LastFailed : Type 0 → Option (List Call) → Option (List Call) → Type 0
LastFailed may_flush old new = Gained old new (EndsWith Failed may_flush)

-- the bytes that a read gave, by its answer and by what its buffer holds after it
abbrev pub bytes_given : {E : Type 0} → Result ℕ E → List ℕ → List ℕ
bytes_given (Ok count) buffer = take count buffer
bytes_given (Err error) buffer = []

-- what a read gave: a number of bytes, or None if it failed
abbrev pub what_came : {E : Type 0} → Result ℕ E → Option ℕ
what_came (Ok count) = Some count
what_came (Err error) = None
