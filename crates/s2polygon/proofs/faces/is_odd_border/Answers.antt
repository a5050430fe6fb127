use Rattle.std.proofs.Common.{arith, lit≤, subst, sym, ◌∙◌, ◌+◌, All, List}
use Rattle.s2polygon.specs.Working.Sizes.{IsFramed}
use Rattle.s2polygon.specs.declared.frames.FramedEdge.{FramedEdge}
use Rattle.s2polygon.proofs.Listed.{border_rows, border_columns}
use Rattle.s2polygon.proofs.faces.is_odd_border.Goals as goal

pub list_at-here-requires : goal.list_at-here-requires
list_at-here-requires c = omega (arith, c.requires.face)

pub overflow_add-face : goal.overflow_add-face
overflow_add-face c = omega (arith, c.requires.face)

pub list_at-there-requires : goal.list_at-there-requires
list_at-there-requires c = omega (arith, c.requires.face)

pub line_at-out-requires-clause-at : goal.line_at-out-requires-clause-at
line_at-out-requires-clause-at c = lit≤ tt

pub line_at-out-requires-clause-from : goal.line_at-out-requires-clause-from
line_at-out-requires-clause-from c = lit≤ tt

pub line_at-out-requires-clause-to : goal.line_at-out-requires-clause-to
line_at-out-requires-clause-to c = lit≤ tt

pub line_at-back-requires-clause-at : goal.line_at-back-requires-clause-at
line_at-back-requires-clause-at c = lit≤ tt

pub line_at-back-requires-clause-from : goal.line_at-back-requires-clause-from
line_at-back-requires-clause-from c = lit≤ tt

pub line_at-back-requires-clause-to : goal.line_at-back-requires-clause-to
line_at-back-requires-clause-to c = lit≤ tt

pub is_odd_row-requires-clause-framed : goal.is_odd_row-requires-clause-framed
is_odd_row-requires-clause-framed c =
    subst (λ (l : List FramedEdge). All IsFramed l) (sym c.list_at-here.ensures)
    (c.requires.framed c.args.face (omega (arith, c.requires.face)))

pub is_odd_row-requires-clause-line : goal.is_odd_row-requires-clause-line
is_odd_row-requires-clause-line c = c.line_at-out.ensures.places

pub is_odd_row-requires-then-face-eq0-clause-framed : goal.is_odd_row-requires-then-face-eq0-clause-framed
is_odd_row-requires-then-face-eq0-clause-framed c =
    subst (λ (l : List FramedEdge). All IsFramed l) (sym c.list_at-there.ensures)
    (c.requires.framed (c.args.face + 1) (omega (arith, c.requires.face)))

pub is_odd_row-requires-then-face-eq0-clause-line : goal.is_odd_row-requires-then-face-eq0-clause-line
is_odd_row-requires-then-face-eq0-clause-line c = c.line_at-back.ensures.places

pub is_odd_column-requires-clause-framed : goal.is_odd_column-requires-clause-framed
is_odd_column-requires-clause-framed c =
    subst (λ (l : List FramedEdge). All IsFramed l) (sym c.list_at-here.ensures)
    (c.requires.framed c.args.face (omega (arith, c.requires.face)))

pub is_odd_column-requires-clause-line : goal.is_odd_column-requires-clause-line
is_odd_column-requires-clause-line c = c.line_at-out.ensures.places

pub is_odd_column-requires-else-face-eq0-clause-framed : goal.is_odd_column-requires-else-face-eq0-clause-framed
is_odd_column-requires-else-face-eq0-clause-framed c =
    subst (λ (l : List FramedEdge). All IsFramed l) (sym c.list_at-there.ensures)
    (c.requires.framed (c.args.face + 1) (omega (arith, c.requires.face)))

pub is_odd_column-requires-else-face-eq0-clause-line : goal.is_odd_column-requires-else-face-eq0-clause-line
is_odd_column-requires-else-face-eq0-clause-line c = c.line_at-back.ensures.places

pub returns-then-face-eq0 : goal.returns-then-face-eq0
returns-then-face-eq0 c edges margin are =
    border_rows c.args.face margin edges c.list_at-here.result.now c.list_at-there.result.now c.line_at-out.result
    c.line_at-back.result c.is_odd_row.result c.is_odd_row-then-face-eq0.result
    (c.list_at-here.ensures ∙ are c.args.face (omega (arith, c.requires.face)))
    (c.list_at-there.ensures ∙ are (c.args.face + 1) (omega (arith, c.requires.face)))
    c.line_at-out.ensures.value c.line_at-back.ensures.value c.if-face-eq0.true c.is_odd_row.ensures
    c.is_odd_row-then-face-eq0.ensures

pub returns-else-face-eq0 : goal.returns-else-face-eq0
returns-else-face-eq0 c edges margin are =
    border_columns c.args.face margin edges c.list_at-here.result.now c.list_at-there.result.now c.line_at-out.result
    c.line_at-back.result c.is_odd_column.result c.is_odd_column-else-face-eq0.result
    (c.list_at-here.ensures ∙ are c.args.face (omega (arith, c.requires.face)))
    (c.list_at-there.ensures ∙ are (c.args.face + 1) (omega (arith, c.requires.face)))
    c.line_at-out.ensures.value c.line_at-back.ensures.value c.if-face-eq0.false c.is_odd_column.ensures
    c.is_odd_column-else-face-eq0.ensures
