use Rattle.std.proofs.Common.{◌≡◌, [], refl, inl}
use Rattle.std.proofs.lemmas.Option.{get_or_from_slice_get}
use Rattle.s2edit.specs.Leads.{list_at}
use Rattle.s2calc.proofs.files.save.Goals as goal

pub returns : goal.returns
returns g c =
    let list : list_at c.args.editor.now.now c.args.register ≡ c.register.result.now.cells =
    get_or_from_slice_get c.args.editor.now.now c.args.register _ [] c.register.ensures.list in (
      refl,
      inl (
        c.as_slice.result.now,
        rw (list, c.as_slice.ensures.value) c.in-Ok.ensures.bytes,
        c.store.ensures c.args.editor.now,
      ),
    )
