use Rattle.std.proofs.Common.{[], ◌+◌, ◌≤◌, List, length}
use Rattle.std.specs.List.{sum_by}
use Rattle.s2cover.specs.Near.{work_allowed}
use Rattle.s2cover.specs.Working.Descent.{is_outer}
use Rattle.s2cover.specs.Working.Splitting.{Front, Sizes}
use Rattle.s2cover.proofs.splitting.cover_up_to.Given as goal

abbrev pub invariant-loop-level : goal.invariant-loop-level
invariant-loop-level g l = Sizes (is_outer l.kind) l.most 0 (length l.kept.items) (length l.ahead.items)
    × (spent : List _)
    × (work_allowed (g.R.RoughRegion.extent l.region) l.most ≤ sum_by g.R.RoughRegion.work spent + l.left)
    × Front g.R.RoughRegion.id (g.R.RoughRegion.sound l.region) g.R.RoughRegion.work
    (g.R.RoughRegion.outside l.region) (g.R.RoughRegion.inside l.region) (g.R.RoughRegion.crosses l.region)
    (is_outer l.kind) (work_allowed (g.R.RoughRegion.extent l.region) l.most) l.most l.deepest l.level l.level spent []
    l.kept.items l.ahead.items
