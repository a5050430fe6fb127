use Rattle.std.proofs.Common.{map, take}
use Rattle.s2map.proofs.Sifting.{Summed}
use Rattle.s2map.specs.Working.Near.{near_box}
use Rattle.s2map.proofs.near.Known.new.Given as goal

abbrev pub invariant-loop-part : goal.invariant-loop-part
invariant-loop-part l = Summed (map (near_box l.q) (take l.part-index l.parts)) l.near.items
