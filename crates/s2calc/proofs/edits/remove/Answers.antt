use Rattle.std.proofs.Common.{◌≡◌, [], sym, subst}
use Rattle.std.proofs.lemmas.Option.{get_or_from_slice_get}
use Rattle.s2list.specs.Union.{has_leaf, IsLocal}
use Rattle.s2list.specs.Sets.{difference_of}
use Rattle.s2edit.specs.Leads.{list_at}
use Rattle.s2calc.specs.Edits.{Gets}
use Rattle.s2calc.specs.Working.Answer.{reply_of}
use Rattle.s2calc.proofs.CoveringLemmas.{rest_too_long}
use Rattle.s2calc.proofs.EditLemmas.{gets}
use Rattle.s2calc.proofs.edits.remove.Goals as goal

pub returns : goal.returns
returns c =
    let old = c.args.editor.now in
    let r = c.args.register in
    let new = c.remove.new.self in
    let S = difference_of (has_leaf (list_at old.now r)) (has_leaf c.args.named.now.cells) in
    let is : list_at old.now r ≡ c.register.result.now.cells =
    get_or_from_slice_get old.now r c.register.result.now.cells [] c.register.ensures.list in
    let local : IsLocal (list_at old.now r) = subst IsLocal (sym is) c.cells.ensures.local in
    subst (λ a. Gets S r old (reply_of a new) new) (sym c.answer_of.ensures)
    (gets S r old new c.remove.result c.remove.ensures.ok c.remove.ensures.numbers
    (λ e. rest_too_long (list_at old.now r) (has_leaf c.args.named.now.cells) old.limit local
    (c.remove.ensures.too_many e))
    c.remove.ensures.err)
