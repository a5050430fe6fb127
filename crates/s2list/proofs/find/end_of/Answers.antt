use Rattle.std.proofs.Common.{◌≡◌, rules, arith, bit_and}
use Rattle.s2cell.specs.Cell.{size_of}
use Rattle.s2cell.proofs.Calls.{size_bits}
use Rattle.s2cell.proofs.CellLemmas.{cell_leaves}
use Rattle.s2list.proofs.find.end_of.Goals as goal

pub returns : goal.returns
returns c own =
    let s : bit_and c.args.id c.wrapping_neg.result ≡ size_of c.args.id =
    size_bits _ _ own (search rules) c.wrapping_neg.ensures in
    let l = cell_leaves c.args.id own in
    let m = l.middle in
    let w = l.within in
    rw s (omega arith)
