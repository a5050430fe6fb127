-- The reads of a run, and how they ended.
use Rattle.std.specs.Prelude.{◌≡◌, ◌<◌, ◌-◌, ◌^◌, ℕ, List, [], ◌∷◌, ◌++◌, ◌⊎◌, length, Option, Some, None}
use Rattle.std.specs.Io.KnownBytes.{Consumes}
use Rattle.s2calc.specs.Calls.{Gains}

-- what is known of a reader: the bytes that it will give, and all bytes that it gave so far
pub record ReaderState : Type 0 where
  pub ahead : Option (List ℕ)
  pub given : Option (List ℕ)

-- what is known of this reader
abbrev pub input_of : {R : Type 0} → (R → Option (List ℕ)) → (R → Option (List ℕ)) → R → ReaderState
input_of ahead given reader = record { ahead = ahead reader; given = given reader }

-- the reader gave these bytes
abbrev pub Gives : ReaderState → ReaderState → List ℕ → Type 0
Gives old new bytes = Consumes old.ahead new.ahead bytes × Gains old.given new.given bytes

-- each of these reads gave some bytes
abbrev pub AllGave : List (Option ℕ) → Type 0
AllGave [] = Unit {0}
AllGave (None ∷ reads) = ⊥
AllGave (Some count ∷ reads) = (0 < count) × AllGave reads

-- the last read gave this, and each read before it gave some bytes
pub record ReadsLast (last : Option ℕ) (reads : List (Option ℕ)) : Type 0 where
  pub before : List (Option ℕ)
  pub is : reads ≡ before ++ last ∷ []
  pub gave : AllGave before

-- the last read failed and all others gave some bytes, or 2^64 - 1 reads all gave some
abbrev pub ReadsStop : List (Option ℕ) → Type 0
ReadsStop reads = ReadsLast None reads ⊎ (AllGave reads × (length reads ≡ 2 ^ 64 - 1))

-- no read failed, and none came after one that gave nothing
abbrev pub ReadsWell : List (Option ℕ) → Type 0
ReadsWell reads = AllGave reads ⊎ ReadsLast (Some 0) reads
