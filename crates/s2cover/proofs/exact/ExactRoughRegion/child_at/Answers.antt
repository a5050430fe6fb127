use Rattle.std.proofs.Common.{◌∙◌}
use Rattle.s2cover.proofs.exact.ExactRoughRegion.child_at.Goals as goal

pub returns-clause-sound : goal.returns-clause-sound
returns-clause-sound g c =
    let child = c.in_ok-child.ensures in
    let s = c.requires.sound in
    (child.sound, child.outer ∙ s.1, child.inner ∙ s.2, child.work ∙ s.3)
