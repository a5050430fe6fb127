use Rattle.std.proofs.Common.{sym, subst}
use Rattle.s2edit.proofs.Making.{assigned_becomes}
use Rattle.s2calc.specs.Edits.{Gets}
use Rattle.s2calc.specs.Working.Answer.{reply_of}
use Rattle.s2calc.proofs.EditLemmas.{gets}
use Rattle.s2calc.proofs.edits.assign_as_it_is.Goals as goal

pub returns : goal.returns
returns c S normal =
    let old = c.args.editor.now in
    let new = c.assign.new.self in
    let r = c.args.register in
    let made = c.assign.result in
    subst (λ a. Gets S r old (reply_of a new) new) (sym c.answer_of.ensures)
    (gets S r old new made
    (assigned_becomes S r old new c.args.union.cells made normal c.assign.ensures.ok c.assign.ensures.ok_sets
    c.assign.ensures.too_many)
    c.assign.ensures.numbers
    (λ e. record { list = c.args.union.cells; normal = normal; above = c.assign.ensures.too_many.0 e })
    c.assign.ensures.err)
