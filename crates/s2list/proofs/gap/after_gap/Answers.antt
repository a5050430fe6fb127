use Rattle.std.proofs.Common.{◌≡◌, get_or, arith}
use Rattle.s2cell.specs.Cell.{first_leaf}
use Rattle.s2cell.proofs.CellLemmas.{cell_leaves}
use Rattle.s2list.proofs.gap.after_gap.Goals as goal

pub returns-then-at-len-clause-next : goal.returns-then-at-len-clause-next
returns-then-at-len-clause-next g c there own =
    let u = g.C.Listed.ids c.args.cells.now in
    let here : c.min.result ≡ c.args.at = omega arith in
    let is : c.id-id.result ≡ get_or u c.args.at 0 = rw here at c.id-id.ensures in
    let first : c.first_of.result ≡ first_leaf (get_or u c.args.at 0) =
    rw is at (c.first_of.ensures (rw is own)) in
    let within = (cell_leaves (get_or u c.args.at 0) own).within in
    let twice = c.saturating_mul-next.ensures in
    omega arith
