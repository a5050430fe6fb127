use Rattle.std.proofs.Common.{◌≡◌, ◌∙◌, get_or, ap, arith}
use Rattle.s2cell.specs.Cell.{first_leaf}
use Rattle.s2list.proofs.stretch.run_to.Goals as goal

pub returns-clause-apart : goal.returns-clause-apart
returns-clause-apart g c local h =
    let u = g.C.Listed.ids c.args.cells.now in
    let i = c.args.i in
    let own = local.cells i 0 (omega arith) in
    let e : c.first_of-2.result ≡ first_leaf (get_or u i 0) = c.first_of-2.ensures (rw c.id-2.ensures own)
    ∙ ap first_leaf c.id-2.ensures in
    let f = c.if-first_of-done.false in
    omega arith
