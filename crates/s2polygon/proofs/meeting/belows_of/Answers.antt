use Rattle.std.proofs.Common.{rules, FitsSigned, w64, ℤ}
use mir.Syntax.{w128}
use Rattle.s2polygon.specs.Meets.{below}
use Rattle.s2polygon.proofs.Pairs.{pair_is}
use Rattle.s2polygon.proofs.meeting.belows_of.Goals as goal

pub returns : goal.returns
returns c =
    let line : FitsSigned w64 c.args.q.v1 = search rules in
    let first : FitsSigned w128 c.below_by.result = search rules in
    let last : FitsSigned w128 c.below_by-2.result = search rules in
    pair_is (λ (u : ℤ). below u c.args.a) (λ (u : ℤ). below u c.args.b) c.args.q.v1 c.below_by.result
    c.below_by-2.result line first last c.below_by.ensures c.below_by-2.ensures
