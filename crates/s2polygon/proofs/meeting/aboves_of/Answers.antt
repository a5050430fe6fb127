use Rattle.std.proofs.Common.{rules, FitsSigned, w64, ℤ}
use mir.Syntax.{w128}
use Rattle.s2polygon.specs.Meets.{above}
use Rattle.s2polygon.proofs.Pairs.{pair_is}
use Rattle.s2polygon.proofs.meeting.aboves_of.Goals as goal

pub returns : goal.returns
returns c =
    let line : FitsSigned w64 c.args.q.v0 = search rules in
    let first : FitsSigned w128 c.above_by.result = search rules in
    let last : FitsSigned w128 c.above_by-2.result = search rules in
    pair_is (λ (u : ℤ). above u c.args.a) (λ (u : ℤ). above u c.args.b) c.args.q.v0 c.above_by.result
    c.above_by-2.result line first last c.above_by.ensures c.above_by-2.ensures
