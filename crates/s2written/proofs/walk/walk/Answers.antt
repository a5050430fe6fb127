use Rattle.std.proofs.Common.{◌≤◌, ◌+◌, ◌*◌, arith, length}
use Rattle.s2written.proofs.Walks.{walked_next}
use Rattle.s2written.proofs.walk.walk.Goals as goal

pub loop-above-preserved : goal.loop-above-preserved
loop-above-preserved c =
    let u = c.in_ok-covering.field-0.met.items in
    let n = c.len-met.ensures in
    let p = c.saturating_mul-in-loop-above.ensures in
    let a = c.saturating_add-asked.ensures in
    let b = c.saturating_add-asked_by_all.ensures in
    let l : c.saturating_add-asked.result ≤ c.loop-above.asked + 4 * length u = omega (arith, n, p, a) in
    let m : c.saturating_add-asked_by_all.result ≤ c.loop-above.asked_by_all + c.saturating_add-asked.result =
    omega (arith, b) in
    walked_next c.args.map.now c.loop-above.above c.loop-above.asked c.loop-above.asked_by_all
    c.saturating_add-asked.result c.saturating_add-asked_by_all.result u c.loop-above.invariant
    c.in_ok-covering.ensures.met l m
