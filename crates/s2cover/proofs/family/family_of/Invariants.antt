use Rattle.std.proofs.Common.{◌≡◌, ◌+◌, ◌≤◌, ℕ, length, true}
use Rattle.s2cell.specs.Cell.{child_of, covers, level_of}
use Rattle.s2cover.specs.Working.Splitting.{IsAcross}
use Rattle.s2cover.proofs.Splittings.{Sorting}
use Rattle.s2cover.proofs.family.family_of.Given as goal

abbrev pub invariant-loop-digit : goal.invariant-loop-digit
invariant-loop-digit g l = (length l.inside.items + length l.across.items ≤ l.digit)
    × ((k : ℕ) → IsAcross g.R.RoughRegion.id (g.R.RoughRegion.sound l.region) g.R.RoughRegion.work
    (g.R.RoughRegion.crosses l.region) k
    l.quadrant → Sorting g.R.RoughRegion.id (g.R.RoughRegion.sound l.region) g.R.RoughRegion.work
    (g.R.RoughRegion.outside l.region)
    (g.R.RoughRegion.inside l.region) (g.R.RoughRegion.crosses l.region)
    (λ m x. covers (child_of (g.R.RoughRegion.id l.quadrant) m) x ≡ true)
    (level_of (g.R.RoughRegion.id l.quadrant) + 1) l.digit
    l.inside.items l.across.items)
