use Rattle.std.proofs.Common.{◌≡◌, ◌∙◌, get_or, ap, arith}
use Rattle.s2cell.specs.Cell.{first_leaf}
use Rattle.s2list.proofs.Checking.{packed_from_local}
use Rattle.s2list.proofs.Finding.{ended_to}
use Rattle.s2list.proofs.difference.free_until.Goals as goal

pub returns-then-j-len-clause-free : goal.returns-then-j-len-clause-free
returns-then-j-len-clause-free g c lx h own free =
    let xs = g.X.Listed.ids c.args.xs.now in
    let ys = g.Y.Listed.ids c.args.ys.now in
    let p = packed_from_local xs lx in
    let f : c.first_of.result ≡ first_leaf (get_or ys c.args.j 0) = c.first_of.ensures (rw c.id.ensures own)
    ∙ ap first_leaf c.id.ensures in
    let ended = c.find_from.ensures.ended p (ended_to xs c.args.i c.first_of.result p c.requires (omega arith)) in
    rw f at ended
