use Rattle.std.proofs.Common.{◌≡◌, ◌-◌, ◌+◌, ◌∙◌, get_or, ap, arith}
use Rattle.s2cell.specs.Cell.{first_leaf, size_of}
use Rattle.s2list.proofs.stretch.is_cut.Goals as goal

pub returns-clause-mark : goal.returns-clause-mark
returns-clause-mark g c t own =
    let u = g.C.Listed.ids c.args.cells.now in
    let k = c.args.stop - 1 in
    let e : c.end_of-end.result ≡ first_leaf (get_or u k 0) + size_of (get_or u k 0) =
    c.end_of-end.ensures (rw c.id.ensures own) ∙ ap (λ v. first_leaf v + size_of v) c.id.ensures in
    let m = c.if-mark-end.false in
    omega arith
