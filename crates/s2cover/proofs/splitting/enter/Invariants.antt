use Rattle.std.proofs.Common.{◌≡◌, ◌/◌, ◌^◌}
use Rattle.s2cover.proofs.Splittings.{Sorting}
use Rattle.s2cover.proofs.splitting.enter.Given as goal

abbrev pub invariant-loop-face : goal.invariant-loop-face
invariant-loop-face g l = Sorting g.R.RoughRegion.id (g.R.RoughRegion.sound l.region) g.R.RoughRegion.work
    (g.R.RoughRegion.outside l.region) (g.R.RoughRegion.inside l.region) (g.R.RoughRegion.crosses l.region)
    (λ m x. x / 4 ^ 30 ≡ m) 0 l.face l.kept.items l.ahead.items
