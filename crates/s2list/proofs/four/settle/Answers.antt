use Rattle.std.proofs.Common.{◌≡◌, ◌^◌, ◌≤◌, length, arith, refl}
use Rattle.s2list.proofs.Narrowing.{from_brackets}
use Rattle.s2list.proofs.four.settle.Goals as goal

pub returns-clause-place : goal.returns-clause-place
returns-clause-place g c packed brackets =
    let n = c.narrow.ensures in
    let to = n.to in
    let in_cells : c.narrow.result ≤ length (g.C.Listed.ids c.args.cells.now) = omega arith in
    let from = from_brackets c.args.lo _ packed brackets (omega arith) in
    record { within = in_cells; ended = n.ended packed from; next = n.next packed from }

pub returns-clause-looks : goal.returns-clause-looks
returns-clause-looks g c = let l = c.narrow.ensures.looks 3 (let e : 2 ^ 3 ≡ 8 = refl in omega arith) in omega arith
