use Rattle.std.proofs.Common.{◌+◌, ◌≤◌, length}
use Rattle.s2cover.specs.Working.Descent.{is_outer}
use Rattle.s2cover.specs.Working.Splitting.{IsFamily}
use Rattle.s2cover.proofs.Splittings.{Moved, Settled}
use Rattle.s2cover.proofs.splitting.settle_some.Given as goal

abbrev pub invariant-loop-family : goal.invariant-loop-family
invariant-loop-family g l =
    Settled (λ f. length f.inside.items + length f.across.items ≤ 4) (is_outer l.kind) l.most l.limit
    l.families.items l.others.items l.kept.items l.ahead.items
    × ((r : _) → Moved g.R.RoughRegion.id (g.R.RoughRegion.sound r) g.R.RoughRegion.work
    (g.R.RoughRegion.outside r) (g.R.RoughRegion.inside r) (g.R.RoughRegion.crosses r)
    (λ f. f.cell) (λ f. length f.inside.items + length f.across.items ≤ 4)
    (λ k f. IsFamily g.R.RoughRegion.id (g.R.RoughRegion.sound r) g.R.RoughRegion.work
    (g.R.RoughRegion.outside r) (g.R.RoughRegion.inside r) (g.R.RoughRegion.crosses r) k f.cell
    f.inside.items f.across.items)
    (is_outer l.kind) l.most l.fn.families.items l.fn.kept.items l.fn.ahead.items l.families.items
    l.others.items l.kept.items l.ahead.items)

abbrev pub decreases-loop-family : goal.decreases-loop-family
decreases-loop-family g l = length l.families.items
