use Rattle.std.proofs.Common.{◌≡◌, ◌<◌, ◌≤◌, arith}
use Rattle.std.proofs.Math.Logic.{⊎_elim}
use Rattle.std.proofs.lemmas.Bool.{and_parts, cases_lt}
use Rattle.s2list.proofs.Checking.{packed_from_local}
use Rattle.s2union_c.proofs.many.eight_lie_in.Goals as goal

pub loop-i-preserved : goal.loop-i-preserved
loop-i-preserved c e u gap packed j from to =
    let parts = and_parts c.loop-i.all c.lies_in_gap-all.result e in
    ⊎_elim
    (λ (a : j < c.loop-i.i). c.loop-i.invariant parts.0 u gap packed j from a)
    (λ (a : c.loop-i.i ≤ j).
    let same : j ≡ c.loop-i.i = omega arith in
    rw same (c.lies_in_gap-all.ensures parts.1 u gap packed))
    (cases_lt j c.loop-i.i)

pub returns-clause-there : goal.returns-clause-there
returns-clause-there c e u gap local i from to =
    c.loop-i.invariant e u gap (packed_from_local u local) i from (omega arith)
