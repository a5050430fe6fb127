use Rattle.std.proofs.Common.{◌≡◌, ◌+◌, take}
use Rattle.std.specs.List.{sum_by}
use Rattle.s2cover.proofs.budget.spend.Given as goal

abbrev pub invariant-loop-n : goal.invariant-loop-n
invariant-loop-n g l = l.left + sum_by g.R.RoughRegion.work (take l.n l.ahead) ≡ l.fn.left
