use Rattle.std.proofs.Common.{◌≡◌, ◌-◌, ◌^◌, length, min, take}
use Rattle.std.specs.List.{sum_by}
use Rattle.s2map.proofs.shape.MapShape.edges.Given as goal

abbrev pub invariant-loop-part : goal.invariant-loop-part
invariant-loop-part l = l.edges ≡ min (sum_by length (take l.part-index l.part-items)) (2 ^ 64 - 1)
