-- What a call for a covering leaves in the list that it writes to.
use Rattle.std.specs.Prelude.{◌<◌, ◌⊎◌, ℕ, ℤ, Bool, List, length}
use Rattle.s2list.specs.Union.{IsNormalForm}
use Rattle.s2union_c.specs.Status.{too_many}
use Rattle.s2union_c.specs.Results.{MadeInPlace, MadeOne, Refused}

-- whatever the normal form of `S` is, it has more than `most` cells
abbrev pub HasMoreCells : ℕ → (ℕ → Bool) → Type 0
HasMoreCells most S = (u : List ℕ) → IsNormalForm S u → most < length u

-- the normal form of `S` was written or is longer than the room, or there was no memory; or it has more than `most`
-- cells, and the call was refused
abbrev pub Covers : ℕ → (ℕ → Bool) → ℤ → List ℕ → List ℕ → ℕ → Type 0
Covers most S status old new len = MadeOne status (IsNormalForm S) old new len
    ⊎ (Refused status too_many old new len × HasMoreCells most S)

-- the same, if no memory is taken and the room may hold anything where it is too short
abbrev pub CoversInPlace : ℕ → (ℕ → Bool) → ℤ → List ℕ → List ℕ → ℕ → Type 0
CoversInPlace most S status old new len = MadeInPlace status (IsNormalForm S) old new len
    ⊎ (Refused status too_many old new len × HasMoreCells most S)
