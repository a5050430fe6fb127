use Rattle.std.proofs.Common.{get_or}
use Rattle.std.specs.Char.{digit_value}
use Rattle.s2cell.proofs.Debugs.{DebugRead}
use Rattle.s2cell.proofs.cell.CellId.from_debug.Given as goal

abbrev pub invariant-loop-byte : goal.invariant-loop-byte
invariant-loop-byte l = DebugRead l.digits (digit_value (get_or l.text 0 0)) l.byte-index l.place
