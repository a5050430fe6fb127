use Rattle.s2cover.specs.Working.Descent.{form_faces}
use Rattle.s2cover.proofs.Formed.{set_normal}
use Rattle.s2cover.proofs.laws.normal_forms.Goals as goal

pub returns : goal.returns
returns c S h = (form_faces S 0 6, set_normal S h)
