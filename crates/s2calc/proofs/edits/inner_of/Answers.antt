use Rattle.std.proofs.Common.{◌≡◌, []}
use Rattle.std.proofs.lemmas.Option.{get_or_from_slice_get}
use Rattle.s2edit.specs.Leads.{list_at}
use Rattle.s2calc.proofs.edits.inner_of.Goals as goal

pub returns-in-None : goal.returns-in-None
returns-in-None c =
    let list : list_at c.args.editor.now.now c.args.register ≡ c.register-union.result.now.cells =
    get_or_from_slice_get c.args.editor.now.now c.args.register _ [] c.register-union.ensures.list in
    rw (c.in-None.is, list, ← c.number.ensures.value, ← c.limit.ensures.value)
    (c.covering_or_refusal.ensures.inner _ _ _ c.union_inner.ensures.normal c.union_inner.ensures.many)

pub returns-in-Some : goal.returns-in-Some
returns-in-Some c =
    let list : list_at c.args.editor.now.now c.args.register ≡ c.register-union.result.now.cells =
    get_or_from_slice_get c.args.editor.now.now c.args.register _ [] c.register-union.ensures.list in
    rw (c.in-Some.is, list, ← c.number-in-Some.ensures.value, ← c.limit-limit.ensures.value)
    (c.covering_or_refusal-in-Some.ensures.inner _ _ _ c.clip_inner.ensures.normal c.clip_inner.ensures.many)
