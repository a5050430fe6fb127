use Rattle.std.proofs.Common.{◌≡◌, ◌^◌, ◌++◌, min}
use Rattle.s2degrees.specs.Working.Digits.{padded}
use Rattle.s2degrees.proofs.decimal.digits_before.Given as goal

abbrev pub invariant-loop-at : goal.invariant-loop-at
invariant-loop-at l = l.value ≡ min (padded (l.whole ++ l.fraction) l.at) (2 ^ 120)
