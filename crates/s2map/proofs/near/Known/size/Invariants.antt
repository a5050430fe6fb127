use Rattle.std.proofs.Common.{◌≡◌, ◌-◌, ◌^◌, length, min, take}
use Rattle.std.specs.List.{sum_by}
use Rattle.s2map.proofs.near.Known.size.Given as goal

abbrev pub invariant-loop-part : goal.invariant-loop-part
invariant-loop-part l =
    l.size ≡ min (sum_by (λ n. length n.edges.items) (take l.part-index l.part-items)) (2 ^ 64 - 1)
