use Rattle.std.proofs.Common.{◌+◌, ◌-◌, ◌/◌, ◌<◌, ◌≤◌, length, arith}
use Rattle.std.proofs.Math.Logic.{⊎_elim}
use Rattle.std.proofs.lemmas.Bool.{cases_lt}
use Rattle.s2list.proofs.Narrowing.{later, later_from_mark, ended_below, from_up, from_down}
use Rattle.s2list.proofs.Looking.{halved_all, halved_more}
use Rattle.s2list.proofs.find.narrow_until.Goals as goal

pub loop-last-init : goal.loop-last-init
loop-last-init g c = record {
  from = omega arith;
  order = c.requires.order;
  to = omega arith;
  found = λ p f. f;
  halved = λ k h. halved_all _ _ k h;
  least = omega arith;
  some = λ h. absurd (omega arith);
}

pub loop-last-preserved-then-id-mark : goal.loop-last-preserved-then-id-mark
loop-last-preserved-then-id-mark g c =
    let u = g.C.Listed.ids c.args.cells.now in
    let m = c.loop-last.first + (c.loop-last.last - c.loop-last.first) / 2 in
    let v = c.loop-last.invariant in
    let f = v.from in
    let o = v.order in
    let t = v.to in
    let w = c.requires.within in
    let n = c.look-id.ensures.count in
    let z = v.least in
    let h : m < length u = omega arith in
    record {
      from = f;
      order = omega arith;
      to = omega arith;
      found = λ p f. from_down m (v.found p f)
          (later_from_mark c.args.lo m p (omega arith) h (rw c.look-id.ensures.id at c.if-id-mark.true));
      halved = λ k l. halved_more _ _ (omega arith) (v.halved k l) (omega arith) (omega arith);
      least = omega arith;
      some = λ _. omega arith;
    }

pub loop-last-preserved : goal.loop-last-preserved
loop-last-preserved g c =
    let u = g.C.Listed.ids c.args.cells.now in
    let m = c.loop-last.first + (c.loop-last.last - c.loop-last.first) / 2 in
    let v = c.loop-last.invariant in
    let f = v.from in
    let o = v.order in
    let t = v.to in
    let w = c.requires.within in
    let n = c.look-id.ensures.count in
    let z = v.least in
    let h : m < length u = omega arith in
    record {
      from = omega arith;
      order = omega arith;
      to = t;
      found = λ p f.
          let test = c.ends_by.ensures (rw c.look-id.ensures.id (p.cells m 0 h)) in
          from_up m p (v.found p f) h (rw c.look-id.ensures.id at (test.0 c.if-ends_by.true));
      halved = λ k l. halved_more _ _ (omega arith) (v.halved k l) (omega arith) (omega arith);
      least = omega arith;
      some = λ _. omega arith;
    }

pub returns-else-ends_by-clause-ended : goal.returns-else-ends_by-clause-ended
returns-else-ends_by-clause-ended g c p f =
    let u = g.C.Listed.ids c.args.cells.now in
    let m = c.loop-last.first + (c.loop-last.last - c.loop-last.first) / 2 in
    let w = c.requires.within in
    let t = c.loop-last.invariant.to in
    let h : m < length u = omega arith in
    ended_below c.args.lo m p (omega arith) h (rw c.look-id.ensures.id at c.if-id-mark.false)

pub returns-else-ends_by-clause-next : goal.returns-else-ends_by-clause-next
returns-else-ends_by-clause-next g c p f h =
    let m = c.loop-last.first + (c.loop-last.last - c.loop-last.first) / 2 in
    let test = c.ends_by.ensures (rw c.look-id.ensures.id (p.cells m 0 h)) in
    rw c.look-id.ensures.id at (later _ _ _ test c.if-ends_by.false)

pub returns-else-ends_by-clause-looks : goal.returns-else-ends_by-clause-looks
returns-else-ends_by-clause-looks g c k h =
    let n = c.look-id.ensures.count in
    let l = (halved_more 0 (g.K.Count.looks c.look-id.new.count) (omega arith) (c.loop-last.invariant.halved k h)
    (omega arith) (omega arith)).paid in
    omega arith

pub returns-clause-ended : goal.returns-clause-ended
returns-clause-ended g c p f = c.among_few.ensures.ended p (c.loop-last.invariant.found p f)

pub returns-clause-next : goal.returns-clause-next
returns-clause-next g c p f = c.among_few.ensures.next p (c.loop-last.invariant.found p f)

pub returns-clause-looks : goal.returns-clause-looks
returns-clause-looks g c k h =
    let l = c.loop-last.invariant.halved k h in
    let few = c.among_few.ensures.looks l.power l.fits in
    let paid = l.paid in
    omega arith

pub returns-clause-some : goal.returns-clause-some
returns-clause-some g c h =
    let v = c.loop-last.invariant in
    let few = c.among_few.ensures.least in
    ⊎_elim
    (λ (a : c.loop-last.last - c.loop-last.first < c.args.end - c.args.start). let s = v.some a in omega arith)
    (λ (a : c.args.end - c.args.start ≤ c.loop-last.last - c.loop-last.first).
    let z = v.least in let s = c.among_few.ensures.some (omega arith) in omega arith)
    (cases_lt (c.loop-last.last - c.loop-last.first) (c.args.end - c.args.start))
