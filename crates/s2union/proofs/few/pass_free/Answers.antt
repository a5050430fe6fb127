use Rattle.std.proofs.Common.{◌≡◌, ◌-◌, get_or, arith, sym, ap}
use Rattle.s2cell.specs.Cell.{first_leaf, size_of}
use Rattle.s2union.proofs.AskingFew.{sought_near}
use Rattle.s2list.proofs.Finding.{ended_to, ends_later}
use Rattle.s2union.proofs.few.pass_free.Goals as goal

pub returns-clause-free : goal.returns-clause-free
returns-clause-free g c k h l there =
    let few = g.C.Listed.ids c.args.few.now in
    let p = c.requires.few_packed in
    let e : get_or few c.args.from 0 ≡ c.look_at-2.result = sym c.look_at-2.ensures.cell in
    let first = ap first_leaf e in
    let size = ap size_of e in
    let end = c.end_leaf.ensures.value in
    let begin = c.first_leaf-begin.ensures.value in
    let next = ap first_leaf c.look_at.ensures.cell in
    let ended = c.find_from_counted.ensures.ended p
    (ended_to few c.args.from c.first_leaf-begin.result p (omega arith) (omega arith)) k l in
    omega arith

pub returns-clause-looks : goal.returns-clause-looks
returns-clause-looks g c =
    let f = c.find_from_counted.ensures in
    let from = f.from in
    let l = sought_near _ _ _ f.looks in
    omega arith

pub returns-then-end_leaf-begin-2-clause-free : goal.returns-then-end_leaf-begin-2-clause-free
returns-then-end_leaf-begin-2-clause-free g c k h l there =
    let few = g.C.Listed.ids c.args.few.now in
    let n = c.len-len.ensures in
    let last = c.len-len.result - 1 in
    let e : get_or few last 0 ≡ c.look_at-3.result = sym c.look_at-3.ensures.cell in
    let first = ap first_leaf e in
    let size = ap size_of e in
    let end = c.end_leaf-2.ensures.value in
    let begin = c.first_leaf-begin.ensures.value in
    let next = ap first_leaf c.look_at.ensures.cell in
    let later = ends_later few k last c.requires.few_packed (omega arith) (omega arith) in
    omega arith
