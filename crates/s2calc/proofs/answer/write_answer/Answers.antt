use Rattle.std.proofs.Common.{◌≡◌, []}
use Rattle.std.proofs.lemmas.Option.{get_or_from_slice_get}
use Rattle.s2edit.specs.Leads.{list_at}
use Rattle.s2calc.proofs.answer.write_answer.Goals as goal

pub returns-in-YesOrNo-clause-ok : goal.returns-in-YesOrNo-clause-ok
returns-in-YesOrNo-clause-ok g c = rw c.in-YesOrNo.is (rw c.yes_or_no_line.ensures at c.emit.ensures.ok)

pub returns-in-YesOrNo-clause-err : goal.returns-in-YesOrNo-clause-err
returns-in-YesOrNo-clause-err g c = rw c.in-YesOrNo.is (rw c.yes_or_no_line.ensures at c.emit.ensures.err)

pub returns-in-Done-clause-ok : goal.returns-in-Done-clause-ok
returns-in-Done-clause-ok g c = rw c.in-Done.is (rw c.done_line.ensures at c.emit-in-Done.ensures.ok)

pub returns-in-Done-clause-err : goal.returns-in-Done-clause-err
returns-in-Done-clause-err g c = rw c.in-Done.is (rw c.done_line.ensures at c.emit-in-Done.ensures.err)

pub returns-in-Listing-clause-ok : goal.returns-in-Listing-clause-ok
returns-in-Listing-clause-ok g c =
    let list : list_at c.args.editor.now.now c.in-Listing.register ≡ c.register.result.now.cells =
    get_or_from_slice_get c.args.editor.now.now c.in-Listing.register _ [] c.register.ensures.list in
    rw (c.in-Listing.is, list, ← c.cells.ensures.value) c.write_cells.ensures.ok

pub returns-in-Listing-clause-err : goal.returns-in-Listing-clause-err
returns-in-Listing-clause-err g c =
    let list : list_at c.args.editor.now.now c.in-Listing.register ≡ c.register.result.now.cells =
    get_or_from_slice_get c.args.editor.now.now c.in-Listing.register _ [] c.register.ensures.list in
    rw (c.in-Listing.is, list, ← c.cells.ensures.value) c.write_cells.ensures.err

pub returns-in-Cut-clause-ok : goal.returns-in-Cut-clause-ok
returns-in-Cut-clause-ok g c =
    let list : list_at c.args.editor.now.now c.in-Cut.register ≡ c.register-in-Cut.result.now.cells =
    get_or_from_slice_get c.args.editor.now.now c.in-Cut.register _ [] c.register-in-Cut.ensures.list in
    rw (c.in-Cut.is, list) c.write_cut.ensures.ok

pub returns-in-Cut-clause-err : goal.returns-in-Cut-clause-err
returns-in-Cut-clause-err g c =
    let list : list_at c.args.editor.now.now c.in-Cut.register ≡ c.register-in-Cut.result.now.cells =
    get_or_from_slice_get c.args.editor.now.now c.in-Cut.register _ [] c.register-in-Cut.ensures.list in
    rw (c.in-Cut.is, list) c.write_cut.ensures.err
