use Rattle.std.proofs.Common.{◌+◌, ◌≤◌, length}
use Rattle.s2cover.specs.Working.Descent.{is_outer}
use Rattle.s2cover.specs.Working.Splitting.{IsFamily}
use Rattle.s2cover.proofs.Splittings.{Splits}
use Rattle.s2cover.proofs.splitting.split.Given as goal

abbrev pub invariant-loop-limit : goal.invariant-loop-limit
invariant-loop-limit g l = Splits g.R.RoughRegion.id (g.R.RoughRegion.sound l.region) g.R.RoughRegion.work
    (g.R.RoughRegion.outside l.region) (g.R.RoughRegion.inside l.region) (g.R.RoughRegion.crosses l.region)
    (λ f. f.cell) (λ f. length f.inside.items + length f.across.items ≤ 4)
    (λ k f. IsFamily g.R.RoughRegion.id (g.R.RoughRegion.sound l.region) g.R.RoughRegion.work
    (g.R.RoughRegion.outside l.region) (g.R.RoughRegion.inside l.region) (g.R.RoughRegion.crosses l.region) k f.cell
    f.inside.items f.across.items)
    (is_outer l.kind) l.most l.limit l.fn.kept.items l.fn.ahead.items l.families.items l.kept.items l.ahead.items
