use Rattle.std.proofs.Common.{◌≤◌, ℕ, List, length, subst}
use Rattle.s2list.specs.Union.{IsLocal, IsNormalForm, has_leaf}
use Rattle.s2list.proofs.Normal.{normal_from_local}
use Rattle.s2edit.specs.History.{History, EachList}
use Rattle.s2edit.proofs.Leading.{each_within}
use Rattle.s2edit.proofs.editor.Editor.limit.Goals as goal

pub returns-clause-few : goal.returns-clause-few
returns-clause-few c =
    let e = c.self.inside in
    let i = c.self.invariant in
    subst (λ (h : History (List ℕ)). EachList (λ u. length u ≤ h.limit) h) c.self.view_is
    (each_within (λ u. length u ≤ e.limit) e.limit (λ u w. w.few) e.depth e.registers.items e.past.items
    e.future.items i.registers_within i.past_fits i.future_fits)

pub returns-clause-local : goal.returns-clause-local
returns-clause-local c =
    let e = c.self.inside in
    let i = c.self.invariant in
    subst (EachList IsLocal) c.self.view_is
    (each_within IsLocal e.limit (λ u w. w.local) e.depth e.registers.items e.past.items e.future.items
    i.registers_within i.past_fits i.future_fits)

pub returns-clause-normal : goal.returns-clause-normal
returns-clause-normal c =
    let e = c.self.inside in
    let i = c.self.invariant in
    subst (EachList (λ u. IsNormalForm (has_leaf u) u)) c.self.view_is
    (each_within (λ u. IsNormalForm (has_leaf u) u) e.limit (λ u w. normal_from_local u w.local) e.depth
    e.registers.items e.past.items e.future.items i.registers_within i.past_fits i.future_fits)
