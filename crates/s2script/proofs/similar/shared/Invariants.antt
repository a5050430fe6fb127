use Rattle.std.proofs.Common.{◌≡◌, ◌≤◌, ◌+◌, ◌-◌, length, drop}
use Rattle.s2script.specs.Similar.{shared}
use Rattle.s2script.proofs.similar.shared.Given as goal

-- the bytes so far are equal
abbrev pub invariant-loop-count : goal.invariant-loop-count
invariant-loop-count l = (l.count ≤ length l.xs) × (l.count ≤ length l.ys)
    × (shared l.xs l.ys ≡ l.count + shared (drop l.count l.xs) (drop l.count l.ys))

abbrev pub decreases-loop-count : goal.decreases-loop-count
decreases-loop-count l = length l.xs - l.count
