use Rattle.std.proofs.Common.{◌≡◌, ◌<◌, ◌≤◌, get_or, arith}
use Rattle.std.proofs.Math.Logic.{⊎_elim}
use Rattle.std.proofs.lemmas.Bool.{cases_lt}
use Rattle.s2cell.specs.Cell.{IsCell}
use Rattle.s2list.proofs.Families.{cells_from_places}
use Rattle.s2list.proofs.whole.first_wrong.Goals as goal

pub loop-k-preserved : goal.loop-k-preserved
loop-k-preserved g c j h =
    let u = g.C.Listed.ids c.args.cells.now in
    ⊎_elim
    (λ (a : j < c.loop-k.k). c.loop-k.invariant j a)
    (λ (a : c.loop-k.k ≤ j).
    let e : j ≡ c.loop-k.k = omega arith in
    let own : IsCell (get_or u c.loop-k.k 0) = rw c.id.ensures at (c.is_cell.ensures.0 c.if-not-is_cell.false) in
    rw e own)
    (cases_lt j c.loop-k.k)

pub returns : goal.returns
returns g c =
    let n = c.len-k-end.ensures in
    cells_from_places (g.C.Listed.ids c.args.cells.now) (λ j h. c.loop-k.invariant j (omega arith))
