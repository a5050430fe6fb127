use Rattle.std.proofs.Common.{◌∙◌, ap, subst, sym}
use Rattle.s2polygon.specs.Tests.{meets_square}
use Rattle.s2polygon.specs.Working.Sizes.{IsFramed}
use Rattle.s2polygon.specs.declared.frames.FramedEdge.{FramedEdge}
use Rattle.s2polygon.proofs.Between.{around_answer, off_answer}
use Rattle.s2polygon.proofs.Meetings.{yes}
use Rattle.s2polygon.proofs.boxes.BoxedEdge.is_met.Goals as goal

pub returns-then-is_off : goal.returns-then-is_off
returns-then-is_off c =
    off_answer c.self.inside.edge c.args.q c.self.inside.columns c.self.inside.rows c.requires.square c.self.invariant
    (c.if-is_off.ensures yes)
    ∙ ap (meets_square c.args.q) c.self.view_is

pub returns-then-is_around : goal.returns-then-is_around
returns-then-is_around c =
    around_answer c.self.inside.edge c.args.q c.self.inside.columns c.self.inside.rows c.requires.square
    c.self.invariant (c.if-is_around.ensures yes)
    ∙ ap (meets_square c.args.q) c.self.view_is

pub is_met-requires-clause-edge : goal.is_met-requires-clause-edge
is_met-requires-clause-edge c = subst (λ (e : FramedEdge). IsFramed e) (sym c.self.view_is) c.requires.edge

pub is_met-requires-clause-square : goal.is_met-requires-clause-square
is_met-requires-clause-square c = c.requires.square

pub returns : goal.returns
returns c = c.is_met.ensures ∙ ap (meets_square c.args.q) c.self.view_is
