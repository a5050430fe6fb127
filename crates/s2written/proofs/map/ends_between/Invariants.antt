use Rattle.std.proofs.Common.{◌≡◌, ◌-◌, map, take}
use Rattle.s2written.proofs.map.ends_between.Given as goal

abbrev pub invariant-loop-i : goal.invariant-loop-i
invariant-loop-i l = l.ends.items ≡ map (λ e. e - l.begin) (take l.i l.own)
