use Rattle.s2process.proofs.ShelfLemmas.{opens}
use Rattle.s2process.proofs.shelf.ListedShelfShelf.open.Goals as goal

pub returns-in-Ok-Some-clause-answer : goal.returns-in-Ok-Some-clause-answer
returns-in-Ok-Some-clause-answer g c =
    let below = rw c.in-Ok-Some.field-0-is at c.in-Ok-Some.ensures in
    opens g.S.Shelf.files c.args.self.now c.list.new.self g.S.File.Read.remaining c.args.name.now c.in-Ok-Some.file
    c.list.ensures.listed (rw c.list.ensures.kept below)
