use Rattle.std.proofs.Common.{ap, ◌∙◌}
use Rattle.s2polygon.specs.Cells.{widened}
use Rattle.s2polygon.specs.declared.places.Square.{Square}
use Rattle.s2polygon.proofs.places.square_at.Goals as goal

pub cell_square-requires-clause-k : goal.cell_square-requires-clause-k
cell_square-requires-clause-k c = c.requires.k

pub cell_square-requires-clause-i : goal.cell_square-requires-clause-i
cell_square-requires-clause-i c = c.requires.i

pub cell_square-requires-clause-j : goal.cell_square-requires-clause-j
cell_square-requires-clause-j c = c.requires.j

pub widen-requires-clause-face : goal.widen-requires-clause-face
widen-requires-clause-face c = c.cell_square.ensures.face

pub widen-requires-clause-margin : goal.widen-requires-clause-margin
widen-requires-clause-margin c = c.requires.margin

pub returns-clause-value : goal.returns-clause-value
returns-clause-value c = c.widen.ensures.value ∙ ap (λ (q : Square). widened c.args.margin q)
    c.cell_square.ensures.value

pub returns-clause-places : goal.returns-clause-places
returns-clause-places c = c.widen.ensures.places
