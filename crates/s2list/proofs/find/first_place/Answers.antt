use Rattle.std.proofs.Common.{◌≡◌, ◌+◌, ◌-◌, ◌<◌, length, arith}
use Rattle.s2list.specs.Packed.{FirstEndBy}
use Rattle.s2list.proofs.Finding.{ended_to}
use Rattle.s2list.proofs.find.first_place.Goals as goal

pub returns-clause-ended : goal.returns-clause-ended
returns-clause-ended g c p =
    let u = g.C.Listed.ids c.args.cells.now in
    let k = c.args.near - 1 in
    let h : k < length u = omega arith in
    let same : k + 1 ≡ c.args.near = omega arith in
    let test = c.ends_by.ensures (rw c.id.ensures (p.cells k 0 h)) in
    let all : FirstEndBy u (k + 1) c.args.lo = ended_to u k c.args.lo p h
    (rw c.id.ensures at (test.0 c.if-not-ends_by.false)) in
    rw same at all
