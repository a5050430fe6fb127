use Rattle.std.proofs.Common.{◌≡◌, ◌≤◌, take, not}
use Rattle.std.specs.List.{count_by}
use Rattle.s2draw.specs.Rectangles.{can_be_seen}
use Rattle.s2draw.proofs.image.small.Given as goal

-- as many of the cells so far
abbrev pub invariant-loop-cell : goal.invariant-loop-cell
invariant-loop-cell l = (l.count ≤ l.cell-index)
    × (l.count ≡ count_by (λ c. not (can_be_seen c)) (take l.cell-index l.cells))
