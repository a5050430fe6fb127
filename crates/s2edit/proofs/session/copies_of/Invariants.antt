use Rattle.std.proofs.Common.{◌≡◌, take}
use Rattle.s2edit.specs.Working.Chain.{lists_of}
use Rattle.s2edit.proofs.session.copies_of.Given as goal

abbrev pub invariant-loop-union : goal.invariant-loop-union
invariant-loop-union l = lists_of l.copies.items ≡ lists_of (take l.union-index l.unions)
