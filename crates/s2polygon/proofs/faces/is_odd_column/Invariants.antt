use Rattle.std.proofs.Common.{◌≡◌, take}
use Rattle.s2polygon.specs.Crosses.{crosses_column_at}
use Rattle.s2polygon.specs.Parity.{is_odd_by}
use Rattle.s2polygon.proofs.faces.is_odd_column.Given as goal

abbrev pub invariant-loop-e : goal.invariant-loop-e
invariant-loop-e l = l.odd ≡ is_odd_by (crosses_column_at l.line.at l.line.low l.line.high) (take l.e-index l.edges)
