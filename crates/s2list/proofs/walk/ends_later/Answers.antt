use Rattle.std.proofs.Common.{◌≡◌, ◌+◌, ◌-◌, ◌<◌, length, get_or, arith}
use Rattle.std.proofs.lemmas.Bool.Decides.{nat_tests}
use Rattle.s2cell.specs.Cell.{IsCell, first_leaf, size_of}
use Rattle.s2cell.proofs.CellLemmas.{cell_leaves}
use Rattle.s2list.proofs.Checking.{packed_from_local}
use Rattle.s2list.proofs.Finding.{ends_later}
use Rattle.s2list.proofs.Walking.{leaf_there, leaf_at}
use Rattle.s2list.proofs.walk.ends_later.Goals as goal

-- the last leaf of `ys` comes after all of `xs`
pub returns-clause-answer : goal.returns-clause-answer
returns-clause-answer g c lx ly t within =
    let xs = g.X.Listed.ids c.args.xs.now in
    let ys = g.Y.Listed.ids c.args.ys.now in
    let m = c.len-m.ensures in
    let n = c.len-n.ensures in
    let i = c.len-m.result - 1 in
    let j = c.len-n.result - 1 in
    let hi : i < length xs = omega arith in
    let hj : j < length ys = omega arith in
    let cx : IsCell (get_or xs i 0) = lx.cells i 0 hi in
    let cy : IsCell (get_or ys j 0) = ly.cells j 0 hj in
    let x_end : c.end_of.result ≡ first_leaf (get_or xs i 0) + size_of (get_or xs i 0) =
    rw c.look.ensures.id at (c.end_of.ensures (rw c.look.ensures.id cx)) in
    let y_end : c.end_of-2.result ≡ first_leaf (get_or ys j 0) + size_of (get_or ys j 0) =
    rw c.look-2.ensures.id at (c.end_of-2.ensures (rw c.look-2.ensures.id cy)) in
    let later : c.end_of.result < c.end_of-2.result = grind (arith, nat_tests) in
    let some = (cell_leaves (get_or ys j 0) cy).some in
    let last = first_leaf (get_or ys j 0) + size_of (get_or ys j 0) - 1 in
    let there = leaf_at xs last (within last (leaf_there ys j last hj (omega arith) (omega arith))) in
    let before = there.below in
    let high = there.high in
    let ends = ends_later xs there.at i (packed_from_local xs lx) (omega arith) hi in
    absurd (omega arith)
