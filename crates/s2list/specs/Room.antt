-- A list that is written to the front of a room.
use Rattle.std.specs.Prelude.{◌≡◌, ℕ, ◌^◌, ◌<◌, ◌≤◌, ◌⊎◌, List, ◌++◌, length, drop}

-- a list of `n` numbers that has the property is at the front of `new` if it fits, and what comes after it is as in
-- `old`
pub record PutsOne (P : List ℕ → Type 0) (old new : List ℕ) (n : ℕ) : Type 0 where
  pub list : List ℕ
  pub is : P list
  pub len_is : n ≡ length list
  pub same_length : length new ≡ length old
  pub front : length list ≤ length old → new ≡ list ++ drop (length list) old

-- the same, or each list that has the property is longer than `most`, and so is `n`
abbrev pub PutsUpTo : ℕ → (List ℕ → Type 0) → List ℕ → List ℕ → ℕ → Type 0
PutsUpTo most P old new n = PutsOne P old new n ⊎ ((most < n) × ((list : List ℕ) → P list → most < length list))

-- `list` is at the front of `new` if it fits, and what comes after it is as in `old`; `n` is its length, if that is a
-- number of 64 bits
pub record IsPut (list old new : List ℕ) (n : ℕ) : Type 0 where
  pub same_length : length new ≡ length old
  pub len_is : length list < 2 ^ 64 → n ≡ length list
  pub front : length list ≤ length old → new ≡ list ++ drop (length list) old

-- if what comes after `n` numbers in `old` is as in some room, what comes after `m` numbers in `new` is as there too
abbrev pub LeavesRest : List ℕ → List ℕ → ℕ → ℕ → Type 0
LeavesRest old new n m = (room : List ℕ) → drop n old ≡ drop n room → drop m new ≡ drop m room
