use Rattle.std.proofs.Common.{ap, ◌∙◌, ◌++◌, ℕ, List}
use Rattle.s2edit.proofs.Watching.{named_kept, named_held}
use Rattle.s2edit.proofs.restore.parts.name_cells.Goals as goal

pub returns-clause-kept : goal.returns-clause-kept
returns-clause-kept c = named_kept c.args.named.now.items c.extend_from_slice.new.self.items
    c.extend_from_slice-2.new.self.items c.args.change.now
    (c.in_ok-extend_from_slice.ensures.items
    ∙ ap (λ (l : List ℕ). c.args.named.now.items ++ l) c.deref.ensures.value)
    (c.in_ok-extend_from_slice-2.ensures.items
    ∙ ap (λ (l : List ℕ). c.extend_from_slice.new.self.items ++ l) c.deref-2.ensures.value)

pub returns-clause-each : goal.returns-clause-each
returns-clause-each c e = named_held c.args.named.now.items c.extend_from_slice.new.self.items
    c.extend_from_slice-2.new.self.items c.args.change.now
    (c.in_ok-extend_from_slice.ensures.items
    ∙ ap (λ (l : List ℕ). c.args.named.now.items ++ l) c.deref.ensures.value)
    (c.in_ok-extend_from_slice-2.ensures.items
    ∙ ap (λ (l : List ℕ). c.extend_from_slice.new.self.items ++ l) c.deref-2.ensures.value)
