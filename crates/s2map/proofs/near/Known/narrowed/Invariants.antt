use Rattle.std.proofs.Common.{map, take}
use Rattle.s2map.proofs.Sifting.{Summed}
use Rattle.s2map.specs.Working.Near.{narrowed, seen}
use Rattle.s2map.proofs.near.Known.narrowed.Given as goal

abbrev pub invariant-loop-part : goal.invariant-loop-part
invariant-loop-part l =
    Summed (map (λ n. narrowed l.from l.q (seen n)) (take l.part-index l.part-items)) l.near.items
