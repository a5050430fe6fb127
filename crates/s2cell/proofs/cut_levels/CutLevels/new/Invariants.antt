use Rattle.s2cell.proofs.Cutting.{CutBelow}
use Rattle.s2cell.proofs.cut_levels.CutLevels.new.Given as goal

abbrev pub invariant-loop-level : goal.invariant-loop-level
invariant-loop-level l = CutBelow l.level l.min l.modulus l.cut l.levels
