use Rattle.std.proofs.Common.{◌≡◌, ◌++◌, map, take, drop}
use Rattle.s2edit.proofs.Registers.{turned_round}
use Rattle.s2edit.proofs.session.invert.Given as goal

abbrev pub invariant-loop-change : goal.invariant-loop-change
invariant-loop-change l =
    l.change-items ≡ map turned_round (take l.change-index l.fn.moves.items) ++ drop l.change-index l.fn.moves.items
