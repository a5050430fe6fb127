use Rattle.std.proofs.Common.{◌≡◌, ◌+◌, ◌-◌, get_or, arith}
use Rattle.s2cell.specs.Cell.{first_leaf, size_of}
use Rattle.s2cell.proofs.CellLemmas.{cell_leaves}
use Rattle.s2list.proofs.gap.before_gap.Goals as goal

pub returns-else-at-eq0-clause-held : goal.returns-else-at-eq0-clause-held
returns-else-at-eq0-clause-held g c some own =
    let u = g.C.Listed.ids c.args.cells.now in
    let last = c.args.at - 1 in
    let here : c.saturating_sub.result ≡ last = omega arith in
    let is : c.id-id.result ≡ get_or u last 0 = rw here at c.id-id.ensures in
    let end : c.end_of.result ≡ first_leaf (get_or u last 0) + size_of (get_or u last 0) =
    rw is at (c.end_of.ensures (rw is own)) in
    let within = (cell_leaves (get_or u last 0) own).within in
    let twice = c.saturating_mul-held.ensures in
    omega arith
