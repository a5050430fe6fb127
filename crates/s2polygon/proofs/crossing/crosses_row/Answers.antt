use Rattle.std.proofs.Common.{rules, FitsSigned, w64, ap, ◌∙◌, ℤ}
use Rattle.std.proofs.lemmas.Int.{to_z-of_z}
use mir.Syntax.{w128}
use Rattle.s2polygon.specs.Crosses.{side}
use Rattle.s2polygon.specs.Meets.{above}
use Rattle.s2polygon.proofs.Meetings.{corner_is}
use Rattle.s2polygon.proofs.Steps.{beside_answer, crossed_answer, passed}
use Rattle.s2polygon.proofs.crossing.crosses_row.Goals as goal

pub returns-then-are_beside : goal.returns-then-are_beside
returns-then-are_beside c =
    let fa : FitsSigned w64 c.args.line.at = search rules in
    let f1 : FitsSigned w128 c.above_by-from.result = search rules in
    let f2 : FitsSigned w128 c.above_by-to.result = search rules in
    let at = to_z-of_z w64 c.args.line.at fa in
    beside_answer _ _ (above c.args.line.at c.args.e.a) (above c.args.line.at c.args.e.b)
    (side c.args.line.low c.args.line.at c.args.e.a c.args.e.b)
    (side c.args.line.high c.args.line.at c.args.e.a c.args.e.b)
    (to_z-of_z w128 c.above_by-from.result f1 ∙ c.above_by-from.ensures ∙ ap (λ (t : ℤ). above t c.args.e.a) at)
    (to_z-of_z w128 c.above_by-to.result f2 ∙ c.above_by-to.ensures ∙ ap (λ (t : ℤ). above t c.args.e.b) at)
    c.if-are_beside.ensures

pub side_of-low-requires-clause-u : goal.side_of-low-requires-clause-u
side_of-low-requires-clause-u c =
    let f : FitsSigned w64 c.args.line.low = search rules in
    passed c.args.line.low f c.requires.line.low

pub side_of-low-requires-clause-v : goal.side_of-low-requires-clause-v
side_of-low-requires-clause-v c =
    let f : FitsSigned w64 c.args.line.at = search rules in
    passed c.args.line.at f c.requires.line.at

pub side_of-high-requires-clause-u : goal.side_of-high-requires-clause-u
side_of-high-requires-clause-u c =
    let f : FitsSigned w64 c.args.line.high = search rules in
    passed c.args.line.high f c.requires.line.high

pub side_of-high-requires-clause-v : goal.side_of-high-requires-clause-v
side_of-high-requires-clause-v c =
    let f : FitsSigned w64 c.args.line.at = search rules in
    passed c.args.line.at f c.requires.line.at

pub returns : goal.returns
returns c =
    let fa : FitsSigned w64 c.args.line.at = search rules in
    let fl : FitsSigned w64 c.args.line.low = search rules in
    let fh : FitsSigned w64 c.args.line.high = search rules in
    let f1 : FitsSigned w128 c.above_by-from.result = search rules in
    let f2 : FitsSigned w128 c.above_by-to.result = search rules in
    let f3 : FitsSigned w128 c.side_of-low.result = search rules in
    let f4 : FitsSigned w128 c.side_of-high.result = search rules in
    let at = to_z-of_z w64 c.args.line.at fa in
    crossed_answer _ _ _ _ (above c.args.line.at c.args.e.a) (above c.args.line.at c.args.e.b)
    (side c.args.line.low c.args.line.at c.args.e.a c.args.e.b)
    (side c.args.line.high c.args.line.at c.args.e.a c.args.e.b)
    c.are_crossed.result
    (to_z-of_z w128 c.above_by-from.result f1 ∙ c.above_by-from.ensures ∙ ap (λ (t : ℤ). above t c.args.e.a) at)
    (to_z-of_z w128 c.above_by-to.result f2 ∙ c.above_by-to.ensures ∙ ap (λ (t : ℤ). above t c.args.e.b) at)
    (to_z-of_z w128 c.side_of-low.result f3 ∙ c.side_of-low.ensures
    ∙ corner_is c.args.line.low c.args.line.at c.args.e.a c.args.e.b c.args.e.n fl fa c.requires.edge.normal)
    (to_z-of_z w128 c.side_of-high.result f4 ∙ c.side_of-high.ensures
    ∙ corner_is c.args.line.high c.args.line.at c.args.e.a c.args.e.b c.args.e.n fh fa c.requires.edge.normal)
    c.are_crossed.ensures
