use Rattle.std.proofs.Common.{◌≡◌, ◌<◌, ◌≤◌, get_or, arith}
use Rattle.std.proofs.Math.Logic.{⊎_elim}
use Rattle.std.proofs.lemmas.Bool.{and_parts, cases_lt}
use Rattle.s2cell.specs.Cell.{IsCell}
use Rattle.s2list.proofs.Families.{cells_from_places}
use Rattle.s2list.proofs.whole.are_cells.Goals as goal

pub loop-k-preserved : goal.loop-k-preserved
loop-k-preserved g c e j h =
    let u = g.C.Listed.ids c.args.cells.now in
    let parts = and_parts c.loop-k.all c.is_cell-all.result e in
    ⊎_elim
    (λ (a : j < c.loop-k.k). c.loop-k.invariant parts.0 j a)
    (λ (a : c.loop-k.k ≤ j).
    let same : j ≡ c.loop-k.k = omega arith in
    let own : IsCell (get_or u c.loop-k.k 0) = rw c.id.ensures at (c.is_cell-all.ensures.0 parts.1) in
    rw same own)
    (cases_lt j c.loop-k.k)

pub returns : goal.returns
returns g c e =
    let n = c.len-k-end.ensures in
    cells_from_places (g.C.Listed.ids c.args.cells.now) (λ j h. c.loop-k.invariant e j (omega arith))
