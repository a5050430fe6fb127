use Rattle.std.proofs.Common.{◌≡◌, ◌+◌, ◌<◌, [], false, length}
use Rattle.s2shelf.specs.OpenedFile.{Left, has_failed}
use Rattle.s2session.specs.Working.Source.{Ahead, Passes, held, room}
use Rattle.s2session.proofs.source.Buffer.fill.Given as goal

abbrev pub invariant-reads : goal.invariant-reads
invariant-reads g l = record {
  kept : Passes (Ahead l.fn.self (Left g.F.Read.remaining l.fn.file)) (Ahead l.self (Left g.F.Read.remaining
      l.file)) [];
  few : length (held l.self) < l.count;
  whole : room l.self + length (held l.self) ≡ 65536;
  well : has_failed l.file ≡ false;
}
