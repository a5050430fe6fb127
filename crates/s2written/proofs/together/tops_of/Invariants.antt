use Rattle.std.proofs.Common.{◌≡◌, take}
use Rattle.s2cover.specs.Coverings.{LiesOutside}
use Rattle.s2written.specs.Working.Remaining.{Remain}
use Rattle.s2written.proofs.together.tops_of.Given as goal

abbrev pub invariant-loop-k : goal.invariant-loop-k
invariant-loop-k g l = Remain (λ r. LiesOutside (g.R.Quartered.outer r) l.fn.cell)
    (λ r q. g.R.At.Quadrant.sound q × (g.R.At.Quadrant.id q ≡ l.fn.cell)
    × (g.R.At.Quadrant.outer q ≡ g.R.Quartered.outer r) × (g.R.At.Quadrant.inner q ≡ g.R.Quartered.inner r)
    × (g.R.At.Quadrant.work q ≡ g.R.Quartered.work r)) (take l.k l.parts) l.tops.items
