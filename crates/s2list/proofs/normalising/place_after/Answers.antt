use Rattle.std.proofs.Common.{◌≡◌, arith, length, take}
use Rattle.std.proofs.lemmas.List.{length-take-le}
use Rattle.s2list.proofs.normalising.place_after.Goals as goal

pub overflow_add-result : goal.overflow_add-result
overflow_add-result g c =
    let ids = g.C.Listed.ids c.args.list.now in
    let len : length (take c.args.n ids) ≡ c.args.n = length-take-le c.args.n ids (omega arith) in
    let w = c.in-Some.ensures.cases.within in
    omega arith
