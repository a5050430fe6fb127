use Rattle.std.proofs.Common.{arith, ap, filter, ◌∙◌}
use Rattle.s2polygon.specs.Faces.{edges_on}
use Rattle.s2polygon.specs.Tests.{meets_square}
use Rattle.s2polygon.specs.declared.places.Square.{Square}
use Rattle.s2polygon.proofs.Polygons.{if_ok}
use Rattle.s2polygon.proofs.lists.list_on.Goals as goal

pub square_at-requires-clause-k : goal.square_at-requires-clause-k
square_at-requires-clause-k c = omega arith

pub square_at-requires-clause-i : goal.square_at-requires-clause-i
square_at-requires-clause-i c = omega arith

pub square_at-requires-clause-j : goal.square_at-requires-clause-j
square_at-requires-clause-j c = omega arith

pub square_at-requires-clause-margin : goal.square_at-requires-clause-margin
square_at-requires-clause-margin c = c.requires.margin

pub edges_met_on-requires-clause-face : goal.edges_met_on-requires-clause-face
edges_met_on-requires-clause-face c = c.requires.face

pub edges_met_on-requires-clause-square : goal.edges_met_on-requires-clause-square
edges_met_on-requires-clause-square c = c.square_at.ensures.places

pub returns : goal.returns
returns c =
    if_ok c.edges_met_on.result
    (λ list e. e ∙ ap (λ (p : Square). filter (meets_square p) (edges_on c.args.face c.args.edges.now))
    c.square_at.ensures.value)
    c.edges_met_on.ensures
