use Rattle.s2process.proofs.ShelfLemmas.{hands_over, fails_to_get}
use Rattle.s2process.proofs.shelf.ListedShelfShelf.get_beginning.Goals as goal

pub returns-in-Ok-Some-clause-answer : goal.returns-in-Ok-Some-clause-answer
returns-in-Ok-Some-clause-answer g c =
    let below = rw c.in-Ok-Some.field-0-is at c.in-Ok-Some.ensures in
    hands_over g.S.Shelf.files c.args.self.now c.list.new.self c.args.name.now c.args.most c.as_slice.result.now
    c.in-Ok-Some.bytes.items c.as_slice.ensures.value c.list.ensures.listed (rw c.list.ensures.kept below)

pub returns-in-Err-clause-answer : goal.returns-in-Err-clause-answer
returns-in-Err-clause-answer g c =
    fails_to_get g.S.Shelf.files c.args.self.now c.list-in-Err.new.self c.args.name.now c.in-Err.fault
    c.list-in-Err.ensures.listed (rw c.list-in-Err.ensures.kept c.in-Err.ensures)
