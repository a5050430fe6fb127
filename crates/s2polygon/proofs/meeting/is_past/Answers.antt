use Rattle.std.proofs.Common.{rules, FitsSigned, w64, ap₂, ◌∙◌, ◌^◌, ℤ}
use Rattle.std.proofs.lemmas.Int.{to_z-of_z}
use mir.Syntax.{w128}
use Rattle.s2polygon.specs.Crosses.{side_by}
use Rattle.s2polygon.specs.Working.Apart.{AreApart}
use Rattle.s2polygon.proofs.Sizes.{passed_64}
use Rattle.s2polygon.proofs.Meetings.{missed, not_facing, turned_same}
use Rattle.s2polygon.proofs.meeting.is_past.Goals as goal

pub returns-then-not-are_facing : goal.returns-then-not-are_facing
returns-then-not-are_facing c =
    let turn = side_by c.args.u c.args.v c.args.n in
    missed (AreApart c.args.p c.args.q turn)
    (not_facing c.args.p c.args.q turn c.are_facing.result c.if-not-are_facing.true c.are_facing.ensures)

pub side_of-requires-clause-u : goal.side_of-requires-clause-u
side_of-requires-clause-u c = passed_64 c.args.u (2 ^ 62) c.ranges.u c.requires.u

pub side_of-requires-clause-v : goal.side_of-requires-clause-v
side_of-requires-clause-v c = passed_64 c.args.v (2 ^ 62) c.ranges.v c.requires.v

pub returns : goal.returns
returns c =
    let f : FitsSigned w128 c.side_of.result = search rules in
    turned_same c.args.p c.args.q _ _ c.are_apart.result
    (to_z-of_z w128 c.side_of.result f ∙ c.side_of.ensures
    ∙ ap₂ (λ (x y : ℤ). side_by x y c.args.n) (to_z-of_z w64 c.args.u c.ranges.u) (to_z-of_z w64 c.args.v c.ranges.v))
    c.are_apart.ensures
