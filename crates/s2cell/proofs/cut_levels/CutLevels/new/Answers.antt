use Rattle.std.proofs.Common.{arith}
use Rattle.s2cell.proofs.Cutting.{cut_below_more}
use Rattle.s2cell.proofs.cut_levels.CutLevels.new.Goals as goal
use Rattle.s2cell.proofs.cut_levels.CutLevels.new.Goals.{then-cut-level, else-cut-level}

pub loop-level-preserved : goal.loop-level-preserved
loop-level-preserved c = cut_below_more c.if-cut-level.cut c.min.result (omega arith) c.requires.some c.requires.modulus
    c.loop-level.invariant (λ h.
    elim c.if-cut-level.branch [
      | then-cut-level w ↦ w.cut-is
      | else-cut-level w ↦ absurd (omega (arith, w.if-cut-level.false))
    ]) (λ h.
    elim c.if-cut-level.branch [
      | then-cut-level w ↦ absurd (omega (arith, w.if-cut-level.true))
      | else-cut-level w ↦ w.cut-is
    ]) c.min.ensures
