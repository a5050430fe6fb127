use Rattle.std.proofs.Common.{◌≡◌, length, map}
use Rattle.std.specs.List.{AllByRecursion}
use Rattle.s2shelf.specs.OpenedFile.{Left}
use Rattle.s2edit.specs.Content.{diff_of, IsMove}
use Rattle.s2session.specs.Working.SessionParts.{row_text}
use Rattle.s2session.specs.Working.Taking.{Takes}
use Rattle.s2session.specs.Working.Source.{Ahead}
use Rattle.s2session.proofs.parts.row_at.Given as goal

abbrev pub invariant-loop-i : goal.invariant-loop-i
invariant-loop-i g l = record {
  taken : Takes row_text (AllByRecursion IsMove) (Ahead l.fn.buffer (Left g.F.Read.remaining l.fn.file))
      (map diff_of l.moves.items) (Ahead l.buffer (Left g.F.Read.remaining l.file));
  count : length l.moves.items ≡ l._i;
}
