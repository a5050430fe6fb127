use Rattle.std.proofs.Common.{rules}
use Rattle.std.proofs.lemmas.List.{take_all}
use Rattle.std.proofs.lemmas.Result.{IfOk-weaker}
use Rattle.s2draw.specs.Picture.{middle, line}
use Rattle.s2draw.proofs.Notes.{around, one_more}
use Rattle.s2draw.proofs.image.put_line.Goals as goal

pub returns : goal.returns
unfolding line
returns c =
    IfOk-weaker c.put-2.result _ _
    (λ u q. around middle _ _ _ c.in_ok-put.ensures
    c.loop-cell.invariant (take_all c.loop-cell.cell-index c.args.cells.now (search rules)) q) c.put-2.ensures

pub loop-cell-preserved : goal.loop-cell-preserved
loop-cell-preserved c = one_more middle _ c.args.cells.now c.loop-cell.cell-index c.cell-item.result
    c.loop-cell.invariant c.loop-cell-test.true c.cell-item.is c.in_ok-put_middle.ensures
