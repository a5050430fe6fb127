use Rattle.std.proofs.Common.{map, ap, ◌∙◌, subst}
use Rattle.s2edit.specs.Content.{Content, diff_of, content_of_parts}
use Rattle.s2edit.specs.Working.Chain.{lists_of}
use Rattle.s2edit.specs.Session.{Records}
use Rattle.s2edit.proofs.Contents.{told_content}
use Rattle.s2edit.proofs.Saving.{session_tells}
use Rattle.s2edit.proofs.editor.Editor.session.Goals as goal

pub returns-clause-tells : goal.returns-clause-tells
returns-clause-tells c =
    let e = c.self.inside in
    let i = c.self.invariant in
    let s : Content = content_of_parts c.in_ok-registers.registers.items (map diff_of c.in_ok-past.past.items)
    (map diff_of c.in_ok-future.future.items) in
    subst (Records s) c.self.view_is
    (session_tells e.limit e.depth e.registers.items e.past.items e.future.items s
    (c.in_ok-registers.ensures ∙ ap lists_of c.deref.ensures.value) c.in_ok-past.ensures c.in_ok-future.ensures
    i.limit_bound i.depth_most i.count i.depth_bound i.registers_within i.past_fits i.future_fits)

pub returns-clause-content : goal.returns-clause-content
returns-clause-content c = told_content _ c.args.self.now (returns-clause-tells c)
