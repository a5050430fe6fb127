use Rattle.std.proofs.Common.{◌∙◌, ap, subst, sym}
use Rattle.s2polygon.specs.Crosses.{crosses_column_at}
use Rattle.s2polygon.specs.Working.Sizes.{IsFramed}
use Rattle.s2polygon.specs.declared.frames.FramedEdge.{FramedEdge}
use Rattle.s2polygon.proofs.Between.{column_answer}
use Rattle.s2polygon.proofs.Meetings.{yes}
use Rattle.s2polygon.proofs.boxes.BoxedEdge.crosses_column.Goals as goal

pub returns-then-is_off_piece : goal.returns-then-is_off_piece
returns-then-is_off_piece c =
    column_answer c.self.inside.edge c.args.line c.self.inside.columns c.self.inside.rows c.requires.line
    c.self.invariant (c.if-is_off_piece.ensures yes)
    ∙ ap (crosses_column_at c.args.line.at c.args.line.low c.args.line.high) c.self.view_is

pub crosses_column-requires-clause-edge : goal.crosses_column-requires-clause-edge
crosses_column-requires-clause-edge c = subst (λ (e : FramedEdge). IsFramed e) (sym c.self.view_is) c.requires.edge

pub crosses_column-requires-clause-line : goal.crosses_column-requires-clause-line
crosses_column-requires-clause-line c = c.requires.line

pub returns : goal.returns
returns c =
    c.crosses_column.ensures ∙ ap (crosses_column_at c.args.line.at c.args.line.low c.args.line.high) c.self.view_is
