use Rattle.std.proofs.Common.{◌-◌, ◌≤◌, All, length}
use Rattle.s2cell.specs.Cell.{IsCell}
use Rattle.s2shelf.specs.OpenedFile.{Left}
use Rattle.s2session.specs.Working.SessionParts.{identifiers_text}
use Rattle.s2session.specs.Working.Source.{Ahead}
use Rattle.s2session.specs.Working.Taking.{Takes}
use Rattle.s2session.proofs.parts.cells_counted.Given as goal

abbrev pub invariant-pieces : goal.invariant-pieces
invariant-pieces g l = record {
  taken : Takes identifiers_text (All IsCell) (Ahead l.fn.buffer (Left g.F.Read.remaining l.fn.file)) l.cells.items
      (Ahead l.buffer (Left g.F.Read.remaining l.file));
  few : length l.cells.items ≤ l.count;
}

abbrev pub decreases-pieces : goal.decreases-pieces
decreases-pieces g l = l.count - length l.cells.items
