use Rattle.std.proofs.Common.{◌≡◌, drop}
use Rattle.s2union_c.specs.Order.{order}
use Rattle.s2union_c.proofs.questions.s2u_compare.Given as goal

abbrev pub invariant-loop-k : goal.invariant-loop-k
invariant-loop-k l = order l.xs l.ys ≡ order (drop l.k l.xs) (drop l.k l.ys)
