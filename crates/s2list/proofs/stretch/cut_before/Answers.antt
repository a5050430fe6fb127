use Rattle.std.proofs.Common.{◌-◌, get_or, arith}
use Rattle.s2cell.proofs.CellLemmas.{cell_leaves}
use Rattle.s2list.proofs.stretch.cut_before.Goals as goal

pub returns-then-is_cut-clause-cut : goal.returns-then-is_cut-clause-cut
returns-then-is_cut-clause-cut g c local h w =
    let v = c.loop-stop.invariant.within in
    c.is_cut.ensures.cut c.if-is_cut.true (local.cells (c.loop-stop.stop - 1) 0 (omega arith)) w
    (local.cells c.loop-stop.stop 0 w)

pub returns-then-is_cut-clause-mark : goal.returns-then-is_cut-clause-mark
returns-then-is_cut-clause-mark g c local h =
    let v = c.loop-stop.invariant.within in
    c.is_cut.ensures.mark c.if-is_cut.true (local.cells (c.loop-stop.stop - 1) 0 (omega arith))

pub returns-then-mark-eq-NEVER-clause-mark : goal.returns-then-mark-eq-NEVER-clause-mark
returns-then-mark-eq-NEVER-clause-mark g c local h =
    let last = c.len.result - 1 in
    let own = local.cells last 0 (omega arith) in
    let within = (cell_leaves (get_or (g.C.Listed.ids c.args.cells.now) last 0) own).within in
    omega (arith, c.if-mark-eq-NEVER.true)
