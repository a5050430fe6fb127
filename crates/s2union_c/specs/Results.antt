-- What calls leave in the lists that they write to.
use Rattle.std.specs.Prelude.{◌≡◌, ◌<◌, ◌≤◌, ◌⊎◌, ℕ, ℤ, List, ◌++◌, length, drop}
use Rattle.s2union_c.specs.Status.{made, no_room, no_memory, too_many}

-- the list `xs` fits in the room and is at its front, and what comes after it is unchanged
pub record IsWritten {X : Type 0} (xs old new : List X) (len : ℕ) : Type 0 where
  pub len_is : len ≡ length xs
  pub fits : length xs ≤ length old
  pub front : new ≡ xs ++ drop len old

-- the list `xs` is longer than the room: its length is reported, and nothing is written
pub record HasNoRoom {X : Type 0} (xs old new : List X) (len : ℕ) : Type 0 where
  pub len_is : len ≡ length xs
  pub short : length old < length xs
  pub same : new ≡ old

-- the list `xs` was written, or is longer than the room
abbrev pub Made : {X : Type 0} → ℤ → List X → List X → List X → ℕ → Type 0
Made status xs old new len = ((status ≡ made) × IsWritten xs old new len)
    ⊎ ((status ≡ no_room) × HasNoRoom xs old new len)

-- the call was refused for this reason: the length is 0, and nothing is written
abbrev pub Refused : {X : Type 0} → ℤ → ℤ → List X → List X → ℕ → Type 0
Refused status reason old new len = (status ≡ reason) × (len ≡ 0) × (new ≡ old)

-- a list with the property was written or is longer than the room, or there was no memory
abbrev pub MadeOne : {X : Type 0} → ℤ → (List X → Type 0) → List X → List X → ℕ → Type 0
MadeOne {X} status P old new len = ((xs : List X) × P xs × Made status xs old new len)
    ⊎ Refused status no_memory old new len

-- the list `xs` is longer than the room: its length is reported, and the room may hold anything
pub record ExceedsRoom {X : Type 0} (xs old new : List X) (len : ℕ) : Type 0 where
  pub len_is : len ≡ length xs
  pub short : length old < length xs
  pub same_length : length new ≡ length old

-- a list with the property was written, or is longer than the room, which may then hold anything
abbrev pub MadeInPlace : {X : Type 0} → ℤ → (List X → Type 0) → List X → List X → ℕ → Type 0
MadeInPlace {X} status P old new len = (xs : List X) × P xs × (((status ≡ made) × IsWritten xs old new len)
    ⊎ ((status ≡ no_room) × ExceedsRoom xs old new len))

-- whatever the result means: `len` elements are in the room if they fit, and what comes after them is as it was
pub record KeepsRest {X : Type 0} (status : ℤ) (old new : List X) (len : ℕ) : Type 0 where
  pub same_length : length new ≡ length old
  pub fits : len ≤ length old → (status ≡ made) × (drop len new ≡ drop len old)
  pub short : length old < len → status ≡ no_room

-- there would be more than `most` cells: the length is 0, and what comes after the first `most` is as it was
pub record FindsMany (most : ℕ) (status : ℤ) (old new : List ℕ) (len : ℕ) : Type 0 where
  pub status_is : status ≡ too_many
  pub len_is : len ≡ 0
  pub same_length : length new ≡ length old
  pub rest : drop most new ≡ drop most old
