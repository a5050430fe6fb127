use Rattle.std.proofs.Common.{sym, ◌∙◌}
use Rattle.std.proofs.lemmas.Bool.{false≢true}
use Rattle.s2cell.specs.Cell.{level_of, place_of, first_leaf}
use Rattle.s2cell.proofs.Squares.{first_leaf_covered}
use Rattle.s2cover.proofs.union.CellUnionRegion.part.Goals as goal

pub returns-then-not-intersects_cell-clause-inside : goal.returns-then-not-intersects_cell-clause-inside
returns-then-not-intersects_cell-clause-inside c =
    let x = first_leaf c.args.cell in
    let v = first_leaf_covered c.args.cell (level_of c.args.cell, place_of c.args.cell, c.id.ensures.cell) in (
      λ e. cc,
      λ h. absurd (false≢true (sym c.if-not-intersects_cell.true ∙ c.intersects_cell.ensures.1 (x, v, h x v))),
    )
