use Rattle.std.proofs.Common.{rules, FitsSigned, w64, ℤ}
use mir.Syntax.{w128}
use Rattle.s2polygon.specs.Meets.{right_of}
use Rattle.s2polygon.proofs.Pairs.{pair_is}
use Rattle.s2polygon.proofs.meeting.rights_of.Goals as goal

pub returns : goal.returns
returns c =
    let line : FitsSigned w64 c.args.q.u0 = search rules in
    let first : FitsSigned w128 c.right_by.result = search rules in
    let last : FitsSigned w128 c.right_by-2.result = search rules in
    pair_is (λ (u : ℤ). right_of u c.args.a) (λ (u : ℤ). right_of u c.args.b) c.args.q.u0 c.right_by.result
    c.right_by-2.result line first last c.right_by.ensures c.right_by-2.ensures
