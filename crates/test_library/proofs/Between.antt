-- The change between two unions, made in the first.
use Rattle.std.proofs.Common.{◌≡◌, ℕ, List, length, ap}
use Rattle.s2list.specs.Union.{IsLocal}
use Rattle.s2union.specs.Apply.{cells_without, applied}
use Rattle.s2union.proofs.Applied.{applied-between}

-- what it makes has as many cells as the second
pub between_length : (us vs : List ℕ) → IsLocal us → IsLocal vs →
    length (applied (cells_without us vs) (cells_without vs us) us) ≡ length vs
between_length us vs a b = ap length (applied-between us vs a b)
