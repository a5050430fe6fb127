use Rattle.std.proofs.Common.{◌-◌, ◌<◌, length, arith}
use Rattle.s2list.specs.Packed.{IsPacked}
use Rattle.s2list.specs.Working.Search.{IsFrom}
use Rattle.s2list.proofs.Finding.{ended_to}
use Rattle.s2list.proofs.Narrowing.{later}
use Rattle.s2list.proofs.find.find_counted.Given.{Over}
use Rattle.s2list.proofs.find.find_counted.Goals as goal

pub returns-then-ends_by-clause-ended : goal.returns-then-ends_by-clause-ended
returns-then-ends_by-clause-ended g c p k h =
    let n = c.len-len.ensures in
    let last = c.len-len.result - 1 in
    let l : last < length (g.C.Listed.ids c.args.cells.now) = omega arith in
    let test = c.ends_by.ensures (rw c.look.ensures.id (p.cells last 0 l)) in
    ended_to _ last c.args.lo p l (rw c.look.ensures.id at (test.0 c.if-ends_by.true)) k (omega arith)

pub returns-then-not-ends_by-clause-next : goal.returns-then-not-ends_by-clause-next
returns-then-not-ends_by-clause-next g c p h =
    let test = c.ends_by-2.ensures (rw c.look-2.ensures.id (p.cells 0 0 h)) in
    rw c.look-2.ensures.id at (later _ _ _ test c.if-not-ends_by.true)

-- the last cell doesn't end by the leaf, so the first that doesn't is there or before
before_last : (g : Over) (c : goal.After-narrow_until g) →
    IsPacked (g.C.Listed.ids c.args.cells.now) →
    IsFrom (g.C.Listed.ids c.args.cells.now) c.args.lo 0 (c.len-len.result - 1)
before_last g c p = record {
  ended = λ k h. absurd (omega arith);
  next = λ l.
      let test = c.ends_by.ensures (rw c.look.ensures.id (p.cells (c.len-len.result - 1) 0 l)) in
      rw c.look.ensures.id at (later _ _ _ test c.if-ends_by.false);
}

pub returns-clause-ended : goal.returns-clause-ended
returns-clause-ended g c p = c.narrow_until.ensures.ended p (before_last g c p)

pub returns-clause-next : goal.returns-clause-next
returns-clause-next g c p = c.narrow_until.ensures.next p (before_last g c p)

pub returns-clause-looks : goal.returns-clause-looks
returns-clause-looks g c k h =
    let n = c.len-len.ensures in
    let l = c.narrow_until.ensures.looks k (omega arith) in
    let a = c.look.ensures.count in
    let b = c.look-2.ensures.count in
    omega arith
