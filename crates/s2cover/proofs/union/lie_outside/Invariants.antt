use Rattle.std.proofs.Common.{◌≡◌, ℕ, true, false, take}
use Rattle.s2cell.specs.Rectangles.{rect_set}
use Rattle.s2list.specs.Union.{has_leaf}
use Rattle.s2cover.proofs.union.lie_outside.Given as goal

abbrev pub invariant-loop-cell : goal.invariant-loop-cell
invariant-loop-cell l = (x : ℕ) → has_leaf (take l.cell-index l.cells) x ≡ true → rect_set l.rect x ≡ false
