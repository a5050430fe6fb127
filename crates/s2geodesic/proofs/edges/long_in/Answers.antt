use Rattle.std.proofs.Common.{◌≡◌, ◌-◌, IsTrue, true, arith, rules, subst}
use Rattle.s2geodesic.proofs.Shortness.{short_next}
use Rattle.s2geodesic.specs.Rounded.{IsShort}
use Rattle.s2geodesic.specs.Working.Shortness.{AreShort}
use Rattle.s2polygon.proofs.Ringing.{IsAfter, after_last, after_other, edge_made}
use Rattle.s2geodesic.proofs.edges.long_in.Goals.{then-i-end, else-i-end}
use Rattle.s2geodesic.proofs.edges.long_in.Goals as goal

yes : IsTrue true
yes = search rules

pub loop-i-preserved : goal.loop-i-preserved
loop-i-preserved c =
    let next : IsAfter c.args.from c.args.end c.loop-i.i c.if-i-end.next = elim c.if-i-end.branch [
      | then-i-end w ↦ after_last c.args.from c.args.end c.loop-i.i c.if-i-end.next c.requires.from w.if-i-end.true
          w.next-is
      | else-i-end w ↦ after_other c.args.from c.args.end c.loop-i.i c.if-i-end.next c.loop-i-test.true
          w.if-i-end.false w.next-is
    ] in
    let made = edge_made c.args.corners.now c.args.from c.args.end c.loop-i.i c.if-i-end.next c.index-corners-i.result
    c.index-corners-next.result c.loop-i-test.true c.requires.end next c.index-corners-i.is c.index-corners-next.is in
    short_next c.args.corners.now c.args.from c.args.end c.loop-i.i c.loop-i.invariant
    (subst IsShort made (c.if-not-is_short.ensures.0 yes))

pub returns-clause-none : goal.returns-clause-none
returns-clause-none c =
    let e : c.loop-i.i ≡ c.args.end = omega (arith, c.loop-i-test.false, c.loop-i.auto.i-end, c.requires.from) in
    subst (λ i. AreShort c.args.corners.now c.args.from c.args.end (i - c.args.from)) e c.loop-i.invariant.short
