use Rattle.std.proofs.Common.{◌≡◌, ◌+◌, ◌-◌, ◌∙◌, get_or, ap, arith}
use Rattle.s2cell.specs.Cell.{first_leaf, size_of}
use Rattle.s2cell.proofs.CellLemmas.{cell_leaves}
use Rattle.s2list.proofs.Laying.{heap_run}
use Rattle.s2list.proofs.pile.lay.Goals as goal

pub returns-clause-end : goal.returns-clause-end
returns-clause-end g c local =
    let u = g.C.Listed.ids c.args.cells.now in
    let k = c.args.stop - 1 in
    let own = local.cells k 0 (omega arith) in
    let within = (cell_leaves (get_or u k 0) own).within in
    let e : c.end_of.result ≡ first_leaf (get_or u k 0) + size_of (get_or u k 0) =
    c.end_of.ensures (rw c.id.ensures own) ∙ ap (λ v. first_leaf v + size_of v) c.id.ensures in
    omega arith

pub returns-clause-laid : goal.returns-clause-laid
returns-clause-laid g c local S old done r s =
    heap_run c.saturating_add-after.result local s r (returns-clause-end g c local)
    (λ few list. c.in_ok-front.ensures.put few list old) (λ list. c.in_ok-n.ensures.put list old)
