use Rattle.std.proofs.Common.{◌+◌, ℕ, List, [], sym, subst}
use Rattle.std.proofs.lemmas.Option.{get_or_from_slice_get}
use Rattle.s2cell.specs.Cell.{first_leaf, size_of}
use Rattle.s2list.specs.Union.{has_leaf, between}
use Rattle.s2list.specs.Sets.{union_of, intersection_of, difference_of}
use Rattle.s2edit.specs.Leads.{list_at}
use Rattle.s2calc.specs.Edits.{Gets}
use Rattle.s2calc.specs.Working.Answer.{reply_of}
use Rattle.s2calc.specs.Working.Edits.{Makes}
use Rattle.s2calc.proofs.edits.edit_register.Goals as goal

pub returns-in-Keep : goal.returns-in-Keep
returns-in-Keep c =
    let h = c.args.editor.now in
    let r = c.args.register in
    let u : List ℕ = c.register.result.now.cells in
    let cells = c.in-Keep.cells in
    let reply = reply_of c.give.result c.give.new.editor in
    let new = c.give.new.editor in
    rw c.in-Keep.is
    (subst (λ (k : List ℕ). Gets (intersection_of (has_leaf k) (has_leaf cells)) r h reply new)
    (sym (get_or_from_slice_get h.now r u [] c.register.ensures.list))
    (c.give.ensures (intersection_of (has_leaf u) (has_leaf cells))
    (c.in_memory.ensures.makes (intersection_of (has_leaf u) (has_leaf cells)) h.limit
    c.intersection_with_cells-kept.ensures)))

pub returns-in-Union : goal.returns-in-Union
returns-in-Union c =
    let h = c.args.editor.now in
    let r = c.args.register in
    let s = c.in-Union.other in
    let u : List ℕ = c.register-in-Union.result.now.cells in
    let v : List ℕ = c.register-in-Union-2.result.now.cells in
    let reply = reply_of c.give-in-Union.result c.give-in-Union.new.editor in
    let new = c.give-in-Union.new.editor in
    rw c.in-Union.is
    (subst (λ (k : List ℕ). Gets (union_of (has_leaf k) (has_leaf (list_at h.now s))) r h reply new)
    (sym (get_or_from_slice_get h.now r u [] c.register-in-Union.ensures.list))
    (subst (λ (k : List ℕ). Gets (union_of (has_leaf u) (has_leaf k)) r h reply new)
    (sym (get_or_from_slice_get h.now s v [] c.register-in-Union-2.ensures.list))
    (c.give-in-Union.ensures (union_of (has_leaf u) (has_leaf v))
    (c.in_memory-in-Union.ensures.makes (union_of (has_leaf u) (has_leaf v)) h.limit c.union-union.ensures.normal))))

pub returns-in-Intersect : goal.returns-in-Intersect
returns-in-Intersect c =
    let h = c.args.editor.now in
    let r = c.args.register in
    let s = c.in-Intersect.other in
    let u : List ℕ = c.register-in-Intersect.result.now.cells in
    let v : List ℕ = c.register-in-Intersect-2.result.now.cells in
    let reply = reply_of c.give-in-Intersect.result c.give-in-Intersect.new.editor in
    let new = c.give-in-Intersect.new.editor in
    rw c.in-Intersect.is
    (subst (λ (k : List ℕ). Gets (intersection_of (has_leaf k) (has_leaf (list_at h.now s))) r h reply new)
    (sym (get_or_from_slice_get h.now r u [] c.register-in-Intersect.ensures.list))
    (subst (λ (k : List ℕ). Gets (intersection_of (has_leaf u) (has_leaf k)) r h reply new)
    (sym (get_or_from_slice_get h.now s v [] c.register-in-Intersect-2.ensures.list))
    (c.give-in-Intersect.ensures (intersection_of (has_leaf u) (has_leaf v))
    (c.in_memory-in-Intersect.ensures.makes (intersection_of (has_leaf u) (has_leaf v)) h.limit
    c.intersection-both.ensures.normal))))

pub returns-in-Subtract : goal.returns-in-Subtract
returns-in-Subtract c =
    let h = c.args.editor.now in
    let r = c.args.register in
    let s = c.in-Subtract.other in
    let u : List ℕ = c.register-union.result.now.cells in
    let v : List ℕ = c.register-in-Subtract.result.now.cells in
    let reply = reply_of c.give-in-Subtract.result c.give-in-Subtract.new.editor in
    let new = c.give-in-Subtract.new.editor in
    rw c.in-Subtract.is
    (subst (λ (k : List ℕ). Gets (difference_of (has_leaf k) (has_leaf (list_at h.now s))) r h reply new)
    (sym (get_or_from_slice_get h.now r u [] c.register-union.ensures.list))
    (subst (λ (k : List ℕ). Gets (difference_of (has_leaf u) (has_leaf k)) r h reply new)
    (sym (get_or_from_slice_get h.now s v [] c.register-in-Subtract.ensures.list))
    (c.give-in-Subtract.ensures (difference_of (has_leaf u) (has_leaf v))
    (subst (λ (n : ℕ). Makes (difference_of (has_leaf u) (has_leaf v)) n c.difference-rest.result) c.limit.ensures.value
    c.difference-rest.ensures))))

pub returns-in-Range : goal.returns-in-Range
returns-in-Range c =
    let h = c.args.editor.now in
    let r = c.args.register in
    let span = c.in-Range.span in
    let x : ℕ = c.ends-first.result.0 in
    let y : ℕ = c.ends-first.result.1 in
    let reply = reply_of c.give-in-Range.result c.give-in-Range.new.editor in
    let new = c.give-in-Range.new.editor in
    rw c.in-Range.is
    (subst (λ (a : ℕ). Gets (between (first_leaf a) (first_leaf span.last + size_of span.last)) r h reply new)
    c.ends-first.ensures.first
    (subst (λ (b : ℕ). Gets (between (first_leaf x) (first_leaf b + size_of b)) r h reply new)
    c.ends-first.ensures.last
    (c.give-in-Range.ensures (between (first_leaf x) (first_leaf y + size_of y))
    (c.in_memory-in-Range.ensures.makes (between (first_leaf x) (first_leaf y + size_of y)) h.limit
    c.from_range.ensures.normal))))
