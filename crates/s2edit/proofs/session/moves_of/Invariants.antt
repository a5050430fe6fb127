use Rattle.std.proofs.Common.{◌≡◌, ◌-◌, length, map, take}
use Rattle.s2edit.specs.Content.{diff_of}
use Rattle.s2edit.proofs.session.moves_of.Given as goal

abbrev pub invariant-loop-change : goal.invariant-loop-change
invariant-loop-change g l = map diff_of l.moves.items ≡ take (length l.moves.items) (g.C.Changes.list l.changes)

abbrev pub decreases-loop-change : goal.decreases-loop-change
decreases-loop-change g l = length (g.C.Changes.list l.changes) - length l.moves.items
