use Rattle.std.proofs.Common.{◌+◌, ℕ, List, ◌∷◌, length, subst}
use Rattle.s2edit.specs.Diff.{Diff}
use Rattle.s2edit.specs.History.{History}
use Rattle.s2edit.specs.Leads.{table_at, Leads}
use Rattle.s2edit.specs.Working.Chain.{lists_of}
use Rattle.s2edit.proofs.Leading.{side_counts, back_leads, kept_none, kept_some}
use Rattle.s2edit.proofs.editor.Editor.change_back.Goals as goal

pub returns-clause-none : goal.returns-clause-none
returns-clause-none c =
    kept_none c.get.result c.self.inside.past.items c.args.n (length c.args.self.now.past) c.get.ensures
    (side_counts c.self.inside c.args.self.now c.self.view_is).0

pub returns-clause-leads : goal.returns-clause-leads
returns-clause-leads c =
    let t : List (List ℕ) = lists_of c.self.inside.registers.items in
    kept_some c.get.result c.self.inside.past.items c.args.n
    (λ (d : Diff). (λ (k : History (List ℕ)). Leads d (table_at (k.now ∷ k.past) (c.args.n + 1))
    (table_at (k.now ∷ k.past) c.args.n)) c.args.self.now)
    c.get.ensures
    (λ d h. subst (λ (k : History (List ℕ)). Leads d (table_at (k.now ∷ k.past) (c.args.n + 1))
    (table_at (k.now ∷ k.past) c.args.n)) c.self.view_is
    (back_leads c.self.inside.limit t c.self.inside.past.items c.args.n d c.self.invariant.registers_within
    c.self.invariant.past_fits h))
