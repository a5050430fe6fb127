use Rattle.s2polygon.specs.Crosses.{crosses_row_at, crosses_column_at}
use Rattle.s2polygon.proofs.Steps.{either_answer}
use Rattle.s2polygon.proofs.boxes.BoxedEdge.crosses_step.Goals as goal

pub crosses_row-requires-clause-edge : goal.crosses_row-requires-clause-edge
crosses_row-requires-clause-edge c = c.requires.edge

pub crosses_row-requires-clause-line : goal.crosses_row-requires-clause-line
crosses_row-requires-clause-line c = c.requires.step.row

pub crosses_column-requires-clause-edge : goal.crosses_column-requires-clause-edge
crosses_column-requires-clause-edge c = c.requires.edge

pub crosses_column-requires-clause-line : goal.crosses_column-requires-clause-line
crosses_column-requires-clause-line c = c.requires.step.column

pub returns : goal.returns
returns c =
    either_answer c.crosses_row.result c.crosses_column.result
    (crosses_row_at c.args.s.row.at c.args.s.row.low c.args.s.row.high c.args.self.now)
    (crosses_column_at c.args.s.column.at c.args.s.column.low c.args.s.column.high c.args.self.now)
    c.crosses_row.ensures c.crosses_column.ensures
