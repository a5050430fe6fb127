use Rattle.std.proofs.Common.{◌||◌, ap}
use Rattle.s2list.specs.Union.{has_leaf}
use Rattle.s2edit.specs.Leads.{list_at}
use Rattle.s2calc.proofs.EditLemmas.{gets_same}
use Rattle.s2calc.proofs.edits.add_cells.Goals as goal

pub returns-in-Ok : goal.returns-in-Ok
returns-in-Ok c =
    let before = has_leaf (list_at c.args.editor.now.now c.args.register) in
    gets_same _ _ _ _ _ _ (λ x. ap (λ b. before x || b) (c.in-Ok.ensures x)) c.add.ensures
