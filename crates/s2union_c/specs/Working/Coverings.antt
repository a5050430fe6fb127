-- Which covering of a union is made.
use Rattle.std.specs.Prelude.{ℕ, Bool}
use Rattle.s2cover.specs.Coverings.{inner_set, outer_set}
use Rattle.s2union_c.specs.declared.coverings.Side.{Side}
use Rattle.s2union_c.specs.declared.coverings.Side.TheVariants.{Outer, Inner}

-- the leaves of the covering of `S` at level `k`
abbrev pub covering_of : Side → ℕ → (ℕ → Bool) → ℕ → Bool
covering_of Outer k S = outer_set S k
covering_of Inner k S = inner_set S k
