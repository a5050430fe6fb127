use Rattle.std.proofs.Common.{◌≡◌, length, map}
use Rattle.std.specs.List.{AllByRecursion}
use Rattle.s2list.specs.Union.{Union}
use Rattle.s2shelf.specs.OpenedFile.{Left}
use Rattle.s2edit.specs.Content.{IsRegisterList}
use Rattle.s2session.specs.Working.SessionParts.{registers_text}
use Rattle.s2session.specs.Working.Taking.{Takes}
use Rattle.s2session.specs.Working.Source.{Ahead}
use Rattle.s2session.proofs.parts.registers_at.Given as goal

abbrev pub invariant-loop-i : goal.invariant-loop-i
invariant-loop-i g l = record {
  taken : Takes registers_text (AllByRecursion IsRegisterList) (Ahead l.fn.buffer (Left g.F.Read.remaining l.fn.file))
      (map (λ (u : Union). u.cells) l.registers.items) (Ahead l.buffer (Left g.F.Read.remaining l.file));
  count : length l.registers.items ≡ l._i;
}
