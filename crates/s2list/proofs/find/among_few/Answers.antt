use Rattle.std.proofs.Common.{arith}
use Rattle.s2list.proofs.Narrowing.{left_all, left_half, left_from, left_none}
use Rattle.s2list.proofs.Looking.{halved_all, halved_more}
use Rattle.s2list.proofs.find.among_few.Goals as goal

pub loop-size-init : goal.loop-size-init
loop-size-init g c = record {
  left = left_all c.args.lo _ c.args.start c.args.end c.requires.order;
  halved = λ k h. halved_all _ _ k h;
  least = omega arith;
  some = λ h. absurd (omega arith);
}

pub loop-size-preserved : goal.loop-size-preserved
loop-size-preserved g c =
    let v = c.loop-size.invariant in
    let z = v.least in
    let n = c.look-id.ensures.count in
    record {
      left = left_half c.look-id.result c.is_below-is_on.result _ v.left (omega arith) (omega arith) c.requires.within
          c.look-id.ensures.id c.is_below-is_on.ensures.below c.chosen-below.ensures.on c.chosen-below.ensures.off;
      halved = λ k l. halved_more _ _ (omega arith) (v.halved k l) (omega arith) (omega arith);
      least = omega arith;
      some = λ _. omega arith;
    }

pub overflow_sub-result : goal.overflow_sub-result
overflow_sub-result g c =
    let n = left_from c.ends_after.result c.loop-size.invariant.left c.ends_after.ensures.few c.ends_after.ensures.none
    in
    omega arith

pub returns-clause-from : goal.returns-clause-from
returns-clause-from g c =
    let n = left_from c.ends_after.result c.loop-size.invariant.left c.ends_after.ensures.few c.ends_after.ensures.none
    in
    omega arith

pub returns-clause-ended : goal.returns-clause-ended
returns-clause-ended g c p f =
    (left_none c.ends_after.result c.loop-size.invariant.left (omega arith) (omega arith) c.requires.within
    c.ends_after.ensures.after c.ends_after.ensures.none p f).0

pub returns-clause-next : goal.returns-clause-next
returns-clause-next g c p f =
    (left_none c.ends_after.result c.loop-size.invariant.left (omega arith) (omega arith) c.requires.within
    c.ends_after.ensures.after c.ends_after.ensures.none p f).1

pub returns-clause-looks : goal.returns-clause-looks
returns-clause-looks g c k h = let l = (c.loop-size.invariant.halved k h).paid in omega arith
