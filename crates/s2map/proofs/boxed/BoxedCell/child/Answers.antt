use Rattle.s2cell.specs.Cell.{IsCell, level_of, place_of}
use Rattle.s2map.proofs.Coverings.{child_boxed}
use Rattle.s2map.proofs.boxed.BoxedCell.child.Goals as goal

pub returns-clause-boxed : goal.returns-clause-boxed
returns-clause-boxed c =
    let cell = c.args.self.now.cell in
    let is : IsCell cell = (level_of cell, place_of cell, c.id.ensures.cell) in
    let child = c.child-cell.ensures in
    let own = c.of_cell.ensures.all in
    record {
      box = c.within.ensures.bounds;
      of = rw child (child_boxed cell c.args.digit c.args.self.now.bounds c.of_cell.result c.within.result is
          c.requires.deep c.requires.digit c.requires.boxed.of (rw child at own) c.within.ensures.which);
    }
