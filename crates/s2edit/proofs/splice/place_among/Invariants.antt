use Rattle.std.proofs.Common.{◌≡◌, ◌<◌, ◌-◌, ℕ}
use Rattle.s2cell.specs.Cell.{child_of}
use Rattle.s2edit.proofs.splice.place_among.Given as goal

abbrev pub invariant-loop-place : goal.invariant-loop-place
invariant-loop-place l = record {
  few : l.place < 4;
  others : (i : ℕ) → i < l.place → child_of l.parent i ≡ l.cell → ⊥;
}

abbrev pub decreases-loop-place : goal.decreases-loop-place
decreases-loop-place l = 4 - l.place
