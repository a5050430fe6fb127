use Rattle.std.proofs.Common.{arith}
use Rattle.s2list.proofs.Checking.{packed_from_local}
use Rattle.s2list.proofs.four.places_of_four_counted.Goals as goal

pub returns-clause-first : goal.returns-clause-first
returns-clause-first g c local =
    let p = packed_from_local (g.C.Listed.ids c.args.cells.now) local in
    rw c.first_leaf-a.ensures.value at (c.settle.ensures.place p (c.parts_of_four-parts.ensures.first p))

pub returns-clause-second : goal.returns-clause-second
returns-clause-second g c local =
    let p = packed_from_local (g.C.Listed.ids c.args.cells.now) local in
    rw c.first_leaf-b.ensures.value at (c.settle-2.ensures.place p (c.parts_of_four-parts.ensures.second p))

pub returns-clause-third : goal.returns-clause-third
returns-clause-third g c local =
    let p = packed_from_local (g.C.Listed.ids c.args.cells.now) local in
    rw c.first_leaf-c.ensures.value at (c.settle-3.ensures.place p (c.parts_of_four-parts.ensures.third p))

pub returns-clause-fourth : goal.returns-clause-fourth
returns-clause-fourth g c local =
    let p = packed_from_local (g.C.Listed.ids c.args.cells.now) local in
    rw c.first_leaf-d.ensures.value at (c.settle-4.ensures.place p (c.parts_of_four-parts.ensures.fourth p))

pub returns-clause-looks : goal.returns-clause-looks
returns-clause-looks g c k h =
    let l = c.parts_of_four-parts.ensures.looks k h in
    let a = c.settle.ensures.looks in
    let b = c.settle-2.ensures.looks in
    let d = c.settle-3.ensures.looks in
    let e = c.settle-4.ensures.looks in
    omega arith
