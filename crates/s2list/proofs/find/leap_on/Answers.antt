use Rattle.std.proofs.Common.{◌≡◌, ◌+◌, ◌-◌, ◌<◌, length, arith}
use Rattle.s2list.specs.Packed.{FirstEndBy, IsPacked}
use Rattle.s2list.specs.Working.Search.{IsFrom}
use Rattle.s2list.proofs.Finding.{ended_to}
use Rattle.s2list.proofs.Narrowing.{later}
use Rattle.s2list.proofs.Looking.{leapt_two, leapt_more, leapt_last}
use Rattle.s2list.proofs.find.leap_on.Goals as goal

pub loop-leap-init : goal.loop-leap-init
loop-leap-init g c = record {
  from = omega arith;
  within = omega arith;
  leap = omega arith;
  ended = λ p e. e;
  leapt = leapt_two _ _ (omega arith);
  least = omega arith;
}

pub loop-leap-preserved : goal.loop-leap-preserved
loop-leap-preserved g c =
    let u = g.C.Listed.ids c.args.cells.now in
    let v = c.loop-leap.invariant in
    let from = v.from in
    let leap = v.leap in
    let z = v.least in
    let k = c.loop-leap.base + (c.loop-leap.leap - 1) in
    let n = c.len-len.ensures in
    let more = c.look.ensures.count in
    let h : k < length u = omega arith in
    let same : k + 1 ≡ c.loop-leap.base + c.loop-leap.leap = omega arith in
    record {
      from = omega arith;
      within = omega arith;
      leap = omega arith;
      ended = λ p b.
          let test = c.ends_by.ensures (rw c.look.ensures.id (p.cells k 0 h)) in
          let all : FirstEndBy u (k + 1) c.args.lo = ended_to u k c.args.lo p h
          (rw c.look.ensures.id at (test.0 c.if-not-ends_by.false)) in
          rw same at all;
      leapt = leapt_more _ c.loop-leap.leap _ v.leapt (omega arith) (omega arith) (omega arith);
      least = omega arith;
    }

pub returns-then-not-ends_by : goal.returns-then-not-ends_by
returns-then-not-ends_by g c =
    let u = g.C.Listed.ids c.args.cells.now in
    let v = c.loop-leap.invariant in
    let start = v.from in
    let leap = v.leap in
    let seen = v.least in
    let k = c.loop-leap.base + (c.loop-leap.leap - 1) in
    let n = c.len-len.ensures in
    let more = c.look.ensures.count in
    let h : k < length u = omega arith in
    let f = c.narrow.ensures in
    let on = f.from in
    let to = f.to in
    let least = f.least in
    let place : IsPacked u → FirstEndBy u (c.args.start + 2) c.args.lo → IsFrom u c.args.lo c.loop-leap.base k =
    λ p b. record {
      ended = v.ended p b;
      next = λ _. rw c.look.ensures.id at (later _ _ _ (c.ends_by.ensures (rw c.look.ensures.id (p.cells k 0 h)))
          c.if-not-ends_by.true);
    } in
    record {
      from = omega arith;
      within = omega arith;
      ended = λ p b. f.ended p (place p b);
      next = λ p b. f.next p (place p b);
      looks = λ j l. leapt_last (c.loop-leap.leap - 1) (g.K.Count.looks c.look.new.count) _ v.leapt (omega arith)
          (omega arith) (λ i m. f.looks i (omega arith)) _ j (omega arith) l;
      least = omega arith;
    }

pub returns-clause-looks : goal.returns-clause-looks
returns-clause-looks g c k h =
    let v = c.loop-leap.invariant in
    let from = v.from in
    let leap = v.leap in
    let n = c.len-len.ensures in
    let on = c.narrow-2.ensures.from in
    leapt_last (c.len-len.result - c.loop-leap.base)
    (g.K.Count.looks c.loop-leap.count) _ v.leapt (omega arith) (omega arith)
    (λ j f. c.narrow-2.ensures.looks j (omega arith)) _ k (omega arith) h
