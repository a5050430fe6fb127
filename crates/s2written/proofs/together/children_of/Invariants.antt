use Rattle.std.proofs.Common.{◌≡◌, take}
use Rattle.s2cell.specs.Cell.{child_of}
use Rattle.s2cover.specs.Coverings.{LiesOutside}
use Rattle.s2written.specs.Working.Remaining.{Remain}
use Rattle.s2written.proofs.together.children_of.Given as goal

abbrev pub invariant-loop-k : goal.invariant-loop-k
invariant-loop-k g l =
    Remain (λ q. LiesOutside (g.Q.Quadrant.outer q) (child_of (g.Q.Quadrant.id q) l.digit))
    (λ q p. g.Q.Quadrant.sound p × (g.Q.Quadrant.id p ≡ child_of (g.Q.Quadrant.id q) l.digit)
    × (g.Q.Quadrant.outer p ≡ g.Q.Quadrant.outer q) × (g.Q.Quadrant.inner p ≡ g.Q.Quadrant.inner q)
    × (g.Q.Quadrant.work p ≡ g.Q.Quadrant.work q)) (take l.k l.quadrants) l.children.items
