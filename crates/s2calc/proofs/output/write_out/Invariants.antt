use Rattle.std.proofs.Common.{◌-◌, ◌≤◌, length, take}
use Rattle.std.specs.Io.KnownBytes.{Appends}
use Rattle.s2calc.specs.Calls.{NoneFailed}
use Rattle.s2calc.proofs.output.write_out.Given as goal

-- what is written is a beginning of the bytes, and no call failed
abbrev pub invariant-loop-written : goal.invariant-loop-written
invariant-loop-written g l = (l.written ≤ length l.bytes)
    × Appends (g.W.Sink.contents l.fn.writer) (g.W.Sink.contents l.writer) (take l.written l.bytes)
    × NoneFailed ⊥ (g.W.Sink.calls l.fn.writer) (g.W.Sink.calls l.writer)

abbrev pub decreases-loop-written : goal.decreases-loop-written
decreases-loop-written g l = length l.bytes - l.written
