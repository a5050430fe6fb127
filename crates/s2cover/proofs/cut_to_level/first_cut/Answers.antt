use Rattle.std.proofs.Common.{◌∙◌, ap}
use Rattle.s2cover.specs.Working.Cut.{cut_at}
use Rattle.s2cover.proofs.cut_to_level.first_cut.Goals as goal

pub returns : goal.returns
returns g c local h = c.cut.ensures (rw c.id.ensures (local.cells 0 0 h)) ∙ ap (cut_at c.args.level) c.id.ensures
