use Rattle.std.proofs.Common.{◌+◌, ◌≤◌, length}
use Rattle.s2cover.specs.Working.Splitting.{IsFamily}
use Rattle.s2cover.proofs.Splittings.{Taken}
use Rattle.s2cover.proofs.family.families_of.Given as goal

abbrev pub invariant-loop-quadrant : goal.invariant-loop-quadrant
invariant-loop-quadrant g l = Taken g.R.RoughRegion.id (g.R.RoughRegion.sound l.region) g.R.RoughRegion.work
    (g.R.RoughRegion.outside l.region) (g.R.RoughRegion.inside l.region) (g.R.RoughRegion.crosses l.region)
    (λ f. f.cell) (λ f. length f.inside.items + length f.across.items ≤ 4)
    (λ k f. IsFamily g.R.RoughRegion.id (g.R.RoughRegion.sound l.region) g.R.RoughRegion.work
    (g.R.RoughRegion.outside l.region) (g.R.RoughRegion.inside l.region) (g.R.RoughRegion.crosses l.region) k f.cell
    f.inside.items f.across.items)
    l.fn.ahead.items l.ahead.items l.families.items

abbrev pub decreases-loop-quadrant : goal.decreases-loop-quadrant
decreases-loop-quadrant g l = length l.ahead.items
