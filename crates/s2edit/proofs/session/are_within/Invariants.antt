use Rattle.std.proofs.Common.{◌≤◌, length, take}
use Rattle.s2edit.specs.History.{AllLists}
use Rattle.s2edit.specs.Working.Chain.{lists_of}
use Rattle.s2edit.proofs.session.are_within.Given as goal

abbrev pub invariant-loop-union : goal.invariant-loop-union
invariant-loop-union l = AllLists (λ u. length u ≤ l.limit) (lists_of (take l.union-index l.unions))
