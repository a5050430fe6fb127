use Rattle.std.proofs.Common.{◌≡◌, ◌-◌, ◌++◌, length, take, flat_map}
use Rattle.s2list.specs.Numbers.{number_text}
use Rattle.s2session.specs.Session.{move_text}
use Rattle.s2session.proofs.session_file.put_changes.Given as goal

abbrev pub invariant-loop-change : goal.invariant-loop-change
invariant-loop-change g l = l.bytes.items ≡ l.fn.bytes.items
    ++ (number_text (length (g.C.Changes.list l.changes)) ++ flat_map move_text (take l.k (g.C.Changes.list l.changes)))

abbrev pub decreases-loop-change : goal.decreases-loop-change
decreases-loop-change g l = length (g.C.Changes.list l.changes) - l.k
