use Rattle.std.proofs.lemmas.List.Elements.{All-set}
use Rattle.s2cell.specs.Cell.{IsCell, level_of, place_of}
use Rattle.s2list.proofs.room.RoomCellsMut.set.Goals as goal

pub returns-clause-readable : goal.returns-clause-readable
returns-clause-readable c cells =
    let own : IsCell c.args.cell = (level_of c.args.cell, place_of c.args.cell, c.id.ensures.cell) in
    rw c.id.ensures.value (All-set IsCell c.args.self.now.out.now c.args.k c.args.cell own cells)
