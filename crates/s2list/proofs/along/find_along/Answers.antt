use Rattle.std.proofs.Common.{◌≡◌, ◌+◌, ◌-◌, ◌<◌, length, arith}
use Rattle.s2list.specs.Packed.{IsPacked}
use Rattle.s2list.specs.Working.Search.{IsFrom}
use Rattle.s2list.proofs.Finding.{ended_to}
use Rattle.s2list.proofs.Narrowing.{later}
use Rattle.s2list.proofs.along.find_along.Given.{Over}
use Rattle.s2list.proofs.along.find_along.Goals as goal

pub returns-then-not-ends_by-clause-next : goal.returns-then-not-ends_by-clause-next
returns-then-not-ends_by-clause-next g c p b h =
    let u = g.C.Listed.ids c.args.cells.now in
    let test = c.ends_by.ensures (rw c.look.ensures.id (p.cells c.args.start 0 h)) in
    rw c.look.ensures.id at (later _ _ _ test c.if-not-ends_by.true)

pub returns-then-next-len-clause-ended : goal.returns-then-next-len-clause-ended
returns-then-next-len-clause-ended g c p b =
    let n = c.len-len.ensures in
    let h : c.args.start < length (g.C.Listed.ids c.args.cells.now) = omega arith in
    let test = c.ends_by.ensures (rw c.look.ensures.id (p.cells c.args.start 0 h)) in
    ended_to _ c.args.start c.args.lo p h (rw c.look.ensures.id at (test.0 c.if-not-ends_by.false))

pub returns-then-ends_by-clause-ended : goal.returns-then-ends_by-clause-ended
returns-then-ends_by-clause-ended g c p b k h =
    let n = c.len-len.ensures in
    let last = c.len-len.result - 1 in
    let l : last < length (g.C.Listed.ids c.args.cells.now) = omega arith in
    let test = c.ends_by-2.ensures (rw c.look-2.ensures.id (p.cells last 0 l)) in
    ended_to _ last c.args.lo p l (rw c.look-2.ensures.id at (test.0 c.if-ends_by.true)) k (omega arith)

-- the first cell ends by the leaf, and the last doesn't
between : (g : Over) (c : goal.After-narrow g) → IsPacked (g.C.Listed.ids c.args.cells.now)
    → IsFrom (g.C.Listed.ids c.args.cells.now) c.args.lo (c.args.start + 1) (c.len-len.result - 1)
between g c p =
    let n = c.len-len.ensures in
    let h : c.args.start < length (g.C.Listed.ids c.args.cells.now) = omega arith in
    let first = c.ends_by.ensures (rw c.look.ensures.id (p.cells c.args.start 0 h)) in
    record {
      ended = ended_to _ c.args.start c.args.lo p h (rw c.look.ensures.id at (first.0 c.if-not-ends_by.false));
      next = λ l.
          let last = c.ends_by-2.ensures (rw c.look-2.ensures.id (p.cells (c.len-len.result - 1) 0 l)) in
          rw c.look-2.ensures.id at (later _ _ _ last c.if-ends_by.false);
    }

pub returns-clause-ended : goal.returns-clause-ended
returns-clause-ended g c p b = c.narrow.ensures.ended p (between g c p)

pub returns-clause-next : goal.returns-clause-next
returns-clause-next g c p b = c.narrow.ensures.next p (between g c p)

pub returns-clause-looks : goal.returns-clause-looks
returns-clause-looks g c k h all =
    let n = c.len-len.ensures in
    let at : c.args.at ≡ 0 = omega (arith, c.if-at-gt0.false) in
    let from = c.narrow.ensures.from in
    let size = all at (omega arith) in
    let l = c.narrow.ensures.looks k (omega arith) in
    let one = c.look.ensures.count in
    let two = c.look-2.ensures.count in
    omega arith
