use Rattle.std.proofs.Common.{◌-◌, ◌+◌, length}
use Rattle.s2shelf.specs.OpenedFile.{Left}
use Rattle.s2file.specs.declared.union_file.TheConstants.{MOST_SIZE}
use Rattle.s2session.specs.Working.Source.{Ahead, Passes}
use Rattle.s2session.proofs.session_file.session_of_union.Given as goal

abbrev pub invariant-pieces : goal.invariant-pieces
invariant-pieces g l = Passes (Ahead l.fn.buffer (Left g.F.Read.remaining l.fn.file))
    (Ahead l.buffer (Left g.F.Read.remaining l.file)) l.bytes.items

abbrev pub decreases-pieces : goal.decreases-pieces
decreases-pieces g l = MOST_SIZE + 1 - length l.bytes.items
