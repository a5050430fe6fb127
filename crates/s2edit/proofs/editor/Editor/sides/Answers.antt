use Rattle.std.proofs.Common.{reverse, refl, ap, subst}
use Rattle.s2edit.specs.Content.{Content, content_of_parts}
use Rattle.s2edit.specs.Working.Chain.{lists_of}
use Rattle.s2edit.specs.Session.{Records}
use Rattle.s2edit.proofs.Saving.{session_tells}
use Rattle.s2edit.proofs.editor.Editor.sides.Goals as goal

pub returns : goal.returns
returns c =
    let e = c.self.inside in
    let i = c.self.invariant in
    let s : Content = content_of_parts c.deref.result.now (reverse e.past.items)
    e.future.items in
    subst (Records s) c.self.view_is
    (session_tells e.limit e.depth e.registers.items e.past.items e.future.items s (ap lists_of c.deref.ensures.value)
    refl refl i.limit_bound i.depth_most i.count i.depth_bound i.registers_within i.past_fits i.future_fits)
