use Rattle.std.proofs.Common.{◌≡◌, ◌+◌, ◌<◌, ◌≤◌, take, length, get_or, refl, sym, arith}
use Rattle.s2cell.specs.Cell.{IsCell, size_of}
use Rattle.s2cell.proofs.CellLemmas.{cell_leaves}
use Rattle.s2list.specs.Union.{has_leaf}
use Rattle.s2list.specs.Count.{count_below}
use Rattle.s2cell.specs.declared.TheConstants.{LEAVES}
use Rattle.s2list.proofs.Checking.{packed_from_local}
use Rattle.s2list.proofs.Counting.{count_more, count_none, count_most}
use Rattle.s2list.proofs.whole.leaf_count.Goals as goal

pub loop-k-init : goal.loop-k-init
loop-k-init g c local = sym (count_none (λ x. has_leaf (take 0 (g.C.Listed.ids c.args.cells.now)) x) LEAVES (λ x. refl))

pub loop-k-preserved : goal.loop-k-preserved
loop-k-preserved g c local =
    let u = g.C.Listed.ids c.args.cells.now in
    let i = c.loop-k.k in
    let n = c.len-k-end.ensures in
    let h : i < length u = omega (arith, c.loop-k-test.true) in
    let own : IsCell (get_or u i 0) = local.cells i 0 h in
    let w = (cell_leaves (get_or u i 0) own).within in
    let m : count_below (has_leaf (take (i + 1) u)) LEAVES ≡ count_below (has_leaf (take i u)) LEAVES
    + size_of (get_or u i 0) = count_more u i LEAVES (packed_from_local u local) h w in
    let most : count_below (has_leaf (take (i + 1) u)) LEAVES ≤ LEAVES =
    count_most (has_leaf (take (i + 1) u)) LEAVES in
    let s : c.leaves_of-total.result ≡ size_of (get_or u i 0) =
    rw c.id.ensures at (c.leaves_of-total.ensures (rw c.id.ensures own)) in
    let v = c.loop-k.invariant local in
    omega arith

pub returns-clause-most : goal.returns-clause-most
returns-clause-most g c local =
    let v = c.loop-k.invariant local in
    let most : count_below (has_leaf (take c.loop-k.k (g.C.Listed.ids c.args.cells.now))) LEAVES ≤ LEAVES =
    count_most (has_leaf (take c.loop-k.k (g.C.Listed.ids c.args.cells.now))) LEAVES in
    omega arith
