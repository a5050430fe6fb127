use Rattle.std.proofs.Common.{◌∙◌, ap, subst, sym}
use Rattle.s2polygon.specs.Crosses.{crosses_row_at}
use Rattle.s2polygon.specs.Working.Sizes.{IsFramed}
use Rattle.s2polygon.specs.declared.frames.FramedEdge.{FramedEdge}
use Rattle.s2polygon.proofs.Between.{row_answer}
use Rattle.s2polygon.proofs.Meetings.{yes}
use Rattle.s2polygon.proofs.boxes.BoxedEdge.crosses_row.Goals as goal

pub returns-then-is_off_piece : goal.returns-then-is_off_piece
returns-then-is_off_piece c =
    row_answer c.self.inside.edge c.args.line c.self.inside.columns c.self.inside.rows c.requires.line
    c.self.invariant (c.if-is_off_piece.ensures yes)
    ∙ ap (crosses_row_at c.args.line.at c.args.line.low c.args.line.high) c.self.view_is

pub crosses_row-requires-clause-edge : goal.crosses_row-requires-clause-edge
crosses_row-requires-clause-edge c = subst (λ (e : FramedEdge). IsFramed e) (sym c.self.view_is) c.requires.edge

pub crosses_row-requires-clause-line : goal.crosses_row-requires-clause-line
crosses_row-requires-clause-line c = c.requires.line

pub returns : goal.returns
returns c =
    c.crosses_row.ensures ∙ ap (crosses_row_at c.args.line.at c.args.line.low c.args.line.high) c.self.view_is
