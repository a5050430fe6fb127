use Rattle.std.proofs.Common.{◌≡◌, ℕ, true, List}
use Rattle.std.specs.Io.KnownBytes.{Appends}
use Rattle.s2calc.specs.Replies.{Reply, texts, NoneRefused}
use Rattle.s2calc.specs.Working.Desk.{SameReferences, world_at, point_at}
use Rattle.s2calc.specs.Working.Stands.{Stands}
use Rattle.s2calc.specs.Calls.{NoneFailed}
use Rattle.s2calc.specs.Reads.{Gives, input_of}
use Rattle.s2calc.specs.Working.Calls.{ReadsOn}
use Rattle.s2calc.specs.Moments.{Adds}
use Rattle.s2calc.specs.Working.Seen.{SeenSoFar}
use Rattle.s2calc.proofs.engine.run_over.Given as goal

-- what was read is taken in, its answers are written, no call failed, each read gave some bytes, reads and lines were
-- observed, and if the run stops at a refused line, none was refused
abbrev pub invariant-loop : goal.invariant-loop
invariant-loop g l = (script : List ℕ) × (replies : List Reply) × record {
  read : Gives (input_of g.O.Reader.Source.remaining g.O.Reader.Source.given l.fn.reader)
      (input_of g.O.Reader.Source.remaining g.O.Reader.Source.given l.reader) script;
  stands : Stands (point_at g.S.Shelf.files g.N.Notes.noted l.fn.desk) script replies
      (point_at g.S.Shelf.files g.N.Notes.noted l.desk) l.progress;
  written : Appends (g.W.Sink.contents l.fn.desk.writer.now) (g.W.Sink.contents l.desk.writer.now) (texts replies);
  none_failed : NoneFailed g.F.Flushing.may_fail (g.W.Sink.calls l.fn.desk.writer.now)
      (g.W.Sink.calls l.desk.writer.now);
  reads : ReadsOn (g.O.Reader.Source.reads l.fn.reader) (g.O.Reader.Source.reads l.reader) l.counter;
  seen : Adds (g.O.Observer.seen l.fn.desk.observer.now) (g.O.Observer.seen l.desk.observer.now)
      (SeenSoFar g.W.Sink.contents g.W.Sink.calls g.F.Flushing.is_sent g.S.Shelf.files g.F.Flushing.may_fail
      (world_at g.S.Shelf.files l.fn.desk) l.fn.desk.writer.now script replies (g.O.Reader.Source.reads l.fn.reader)
      (g.O.Reader.Source.reads l.reader));
  none_refused : l.fn.stops ≡ true → NoneRefused replies;
  same : SameReferences l.fn.desk l.desk;
}
