use Rattle.std.proofs.Common.{◌≡◌, ◌<◌, length, get_or, arith}
use Rattle.std.proofs.lemmas.Bool.Decides.{nat_tests}
use Rattle.s2cell.specs.Cell.{IsCell, first_leaf}
use Rattle.s2cell.proofs.CellLemmas.{cell_leaves}
use Rattle.s2list.proofs.Checking.{packed_from_local}
use Rattle.s2list.proofs.Finding.{starts_later}
use Rattle.s2list.proofs.Walking.{leaf_there, leaf_at}
use Rattle.s2list.proofs.walk.begins_earlier.Goals as goal

-- the first leaf of `ys` comes before all of `xs`
pub returns-clause-answer : goal.returns-clause-answer
returns-clause-answer g c lx ly t within =
    let xs = g.X.Listed.ids c.args.xs.now in
    let ys = g.Y.Listed.ids c.args.ys.now in
    let hx : 0 < length xs = omega arith in
    let hy : 0 < length ys = omega arith in
    let cx : IsCell (get_or xs 0 0) = lx.cells 0 0 hx in
    let cy : IsCell (get_or ys 0 0) = ly.cells 0 0 hy in
    let y_first : c.first_of.result ≡ first_leaf (get_or ys 0 0) =
    rw c.look.ensures.id at (c.first_of.ensures (rw c.look.ensures.id cy)) in
    let x_first : c.first_of-2.result ≡ first_leaf (get_or xs 0 0) =
    rw c.look-2.ensures.id at (c.first_of-2.ensures (rw c.look-2.ensures.id cx)) in
    let earlier : c.first_of.result < c.first_of-2.result = grind (arith, nat_tests) in
    let some = (cell_leaves (get_or ys 0 0) cy).some in
    let first = first_leaf (get_or ys 0 0) in
    let there = leaf_at xs first (within first (leaf_there ys 0 first hy (omega arith) (omega arith))) in
    let before = there.below in
    let low = there.low in
    let later = starts_later xs 0 there.at (packed_from_local xs lx) (omega arith) before in
    absurd (omega arith)
