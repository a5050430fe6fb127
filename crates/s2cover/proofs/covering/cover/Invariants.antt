use Rattle.std.proofs.Common.{◌-◌, vec_len}
use Rattle.s2cover.specs.Working.Descent.{blocks, is_outer, set_for}
use Rattle.s2cover.proofs.Formed.{Found}
use Rattle.s2cover.proofs.covering.cover.Given as goal

abbrev pub invariant-loop-face : goal.invariant-loop-face
invariant-loop-face g l = Found (blocks (is_outer l.kind) (set_for (is_outer l.kind) (g.R.Quartered.outer l.region)
    (g.R.Quartered.inner l.region)) (30 - l.level)) (30 - l.level) l.face l.list.items (vec_len l.list) l.max
