use Rattle.std.proofs.Common.{◌≡◌, ℕ, false, List, ◌++◌, length, Ok}
use Rattle.s2calc.specs.Calls.{NoneFailed}
use Rattle.s2calc.specs.Working.Desk.{SameReferences, TakesIn}
use Rattle.s2calc.proofs.engine.take_in.Given as goal

-- what was seen of the chunk is taken in, and no call failed
abbrev pub invariant-loop-at : goal.invariant-loop-at
invariant-loop-at g l =
    (seen : List ℕ) × (l.chunk ≡ seen ++ l.rest)
    × TakesIn g.W.Sink.contents g.W.Sink.calls g.F.Flushing.is_sent g.F.Flushing.may_fail g.S.Shelf.files
    g.N.Notes.noted g.O.Observer.seen l.fn.stops l.fn.desk l.fn.progress seen l.desk l.progress (Ok false)
    × NoneFailed g.F.Flushing.may_fail (g.W.Sink.calls l.fn.desk.writer.now) (g.W.Sink.calls l.desk.writer.now)
    × SameReferences l.fn.desk l.desk

abbrev pub decreases-loop-at : goal.decreases-loop-at
decreases-loop-at g l = length l.rest
