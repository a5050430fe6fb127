use Rattle.std.proofs.Common.{◌≡◌, ℕ, ◌+◌, true, false, List, [], ◌++◌, Option, None, Some, length, take, ap, refl}
use Rattle.std.proofs.Common.{arith, inl, inr}
use Rattle.std.proofs.KnownBytes.{Appends-nil, Appends-kept}
use Rattle.std.proofs.lemmas.Result.{err_from_is_err_and, MatchResult-weaker}
use Rattle.s2script.specs.Lines.{whole_lines}
use Rattle.s2calc.specs.Moments.{Adds}
use Rattle.s2calc.specs.Order.{InOrder}
use Rattle.s2calc.specs.Reads.{ReadsLast}
use Rattle.s2calc.specs.Run.{NoneAfterRefused}
use Rattle.s2calc.specs.Working.Desk.{world_at}
use Rattle.s2calc.proofs.CallLemmas.{gained_so, none_failed_none, none_failed_more, last_failed_after}
use Rattle.s2calc.proofs.CallLemmas.{reads_on_none, reads_on_more, reads_gave, reads_last, reads_end, read_is}
use Rattle.s2calc.proofs.CallLemmas.{gave_well}
use Rattle.s2calc.proofs.DeskLemmas.{SameReferences-trans}
use Rattle.s2calc.proofs.ReadLemmas.{Gives-nil, Gives-none, Gives-trans, Gives-kept, Appends-texts}
use Rattle.s2calc.proofs.ReadLemmas.{stops_reading, stops_before_read, stops_in_chunk}
use Rattle.s2calc.proofs.TakeInLemmas.{Stands-start, taken_to}
use Rattle.s2calc.proofs.OrderLemmas.{Adds-none, Adds-trans, SeenSoFar-start, SeenSoFar-failed}
use Rattle.s2calc.proofs.OrderLemmas.{Adds-weaker, InOrder-read, InOrder-end, ManySeen-halted, Runs-end, Runs-halted}
use Rattle.s2calc.proofs.RefusedLemmas.{none_after_chunk, none_after_end, whole_replied}
use Rattle.s2calc.proofs.engine.run_over.Goals as goal

pub loop-init : goal.loop-init
loop-init g c =
    let new = c.new-progress.ensures in (
      [],
      [],
      record {
        read = Gives-nil _;
        stands = Stands-start _ _ new.kept new.tally new.lines;
        written = Appends-nil _;
        none_failed = none_failed_none _ _;
        reads = reads_on_none _;
        seen = Adds-none _ _ (SeenSoFar-start g.W.Sink.contents g.W.Sink.calls g.F.Flushing.is_sent g.S.Shelf.files
            g.F.Flushing.may_fail _ _ _);
        none_refused = λ e. refl;
        same = (refl, refl, refl, refl, refl);
      },
    )

pub returns-in_err-in_between-clause-runs : goal.returns-in_err-in_between-clause-runs
returns-in_err-in_between-clause-runs g c =
    let (script, replies, i) = c.loop.invariant in
    let p = err_from_is_err_and c.from_residual.result c.from_residual.ensures.1 in
    let f = c.in_err-in_between.ensures.settles in
    rw (p.1, p.2, f.is_output) (
      stops_before_read _ _ _ _ script replies _ i.read i.stands (Appends-kept _ _ _ _ i.written f.kept)
          i.none_refused f.may
          (gave_well i.reads) (last_failed_after _ _ _ _ i.none_failed f.failed),
      (length (whole_lines script), i.seen, inl (refl, refl)),
    )

pub returns-in-Ok-eq0-clause-runs : goal.returns-in-Ok-eq0-clause-runs
returns-in-Ok-eq0-clause-runs g c =
    let (script, replies, i) = c.loop.invariant in
    let gone_out = c.in_ok-in_between.ensures.settles in
    let read = c.in-Ok-eq0.ensures.bytes in
    let none = c.in-Ok-eq0.field-0-test in
    let ended = c.finish.ensures.finishes _ script replies i.stands in
    Runs-end g.W.Sink.contents g.W.Sink.calls g.F.Flushing.is_sent g.S.Shelf.files g.F.Flushing.may_fail _ _ _ _ script
    replies _ _ _ _ _ c.finish.result (Gives-none _ _ _ script _ c.in-Ok-eq0.field-0 none i.read
    (read.0, c.in-Ok-eq0.ensures.given)) (read.1 none (omega arith)) (Appends-kept _ _ _ _ i.written gone_out.kept)
    (reads_end _ _ _ _ _ i.reads c.in-Ok-eq0.ensures.call none)
    (none_failed_more _ _ _ _ i.none_failed gone_out.none_failed) ended c.finish.ensures.calls
    (λ more begins ends here. InOrder-end g.W.Sink.contents g.W.Sink.calls g.F.Flushing.is_sent g.S.Shelf.files
    g.F.Flushing.may_fail _ script replies _ _ i.stands _ _ _ _ i.written i.none_failed gone_out _ _ _ _ _ _ _ _ more
    begins ends (read_is _ _ _ _ c.in-Ok-eq0.ensures.bound.1 c.in-Ok-eq0.ensures.call) i.seen c.in-Ok-eq0.ensures.moment
    (ap (λ (k : ℕ). take k c.read.new.buf) none) here.0)
    (λ more begins ends here reads last e. none_after_end script replies more reads last
    (whole_replied _ script replies _ _ i.stands) (i.none_refused e) here.1)

pub returns-in-Ok-eq0-clause-sent : goal.returns-in-Ok-eq0-clause-sent
returns-in-Ok-eq0-clause-sent g c = MatchResult-weaker c.finish.result c.finish.ensures.sent (λ _ s. s)
    (λ fault is_output is_input. absurd cc)

pub returns-in-Ok-eq0-clause-same : goal.returns-in-Ok-eq0-clause-same
returns-in-Ok-eq0-clause-same g c =
    SameReferences-trans c.args.desk.now c.loop.desk c.finish.new.desk c.loop.invariant.2.same c.finish.ensures.same

pub returns-in_err-take_in-in-Ok-clause-runs : goal.returns-in_err-take_in-in-Ok-clause-runs
returns-in_err-take_in-in-Ok-clause-runs g c =
    let (script, replies, i) = c.loop.invariant in
    let gone_out = c.in_ok-in_between.ensures.settles in
    let p = err_from_is_err_and c.from_residual-in_err-take_in-in-Ok.result
    c.from_residual-in_err-take_in-in-Ok.ensures.1 in
    let done = c.in_err-take_in-in-Ok.ensures in
    let chunk = take c.in-Ok.count c.read.new.buf in
    let bound = c.in-Ok.ensures.bound.1 in
    let made = read_is _ _ _ _ c.in-Ok.ensures.bound.1 c.in-Ok.ensures.call in
    let stopped = done.takes_in _ script replies i.stands i.none_refused in
    let cut = stops_in_chunk _ _ c.args.stops _ script replies _
    (λ rs b begins ends. Adds (g.O.Observer.seen c.args.desk.now.observer.now)
    (g.O.Observer.seen c.take_in.new.desk.observer.now)
    (InOrder g.W.Sink.contents g.W.Sink.calls g.F.Flushing.is_sent g.S.Shelf.files g.F.Flushing.may_fail
    (world_at g.S.Shelf.files c.args.desk.now) c.args.desk.now.writer.now rs b begins ends
    (g.O.Reader.Source.reads c.args.reader.now) (g.O.Reader.Source.reads c.read.new.reader))
    × ((reads : List (Option ℕ)) → ReadsLast (Some (length chunk)) reads → c.args.stops ≡ true →
    NoneAfterRefused b reads rs))
    (λ rs b reads begins ends gave seen. seen.1 reads gave.1) (λ reads gave. inl gave.0)
    (reads_gave _ _ _ _ _ i.reads made (omega (arith, bound)))
    (last_failed_after _ _ _ _ (none_failed_more _ _ _ _ i.none_failed gone_out.none_failed) done.calls)
    _ _ _ i.read (c.in-Ok.ensures.bytes.0, c.in-Ok.ensures.given) (Appends-kept _ _ _ _ i.written gone_out.kept)
    (λ more begins ends here. (
      InOrder-read g.W.Sink.contents g.W.Sink.calls g.F.Flushing.is_sent g.S.Shelf.files g.F.Flushing.may_fail _ script
          replies _ _ i.stands _ _ _ _ i.written i.none_failed gone_out _ _ _ _ _ _ _ _ more begins ends made i.seen
          c.in-Ok.ensures.moment here.0,
      λ reads last e. none_after_chunk script chunk replies more reads last
          (whole_replied _ script replies _ _ i.stands) (i.none_refused e) (here.1 e),
    )) stopped.1 in
    rw (p.1, p.2, stopped.0) (cut.0, (cut.1.0, cut.1.1.0, cut.1.2))

pub returns-in_err-take_in-in-Ok-clause-sent : goal.returns-in_err-take_in-in-Ok-clause-sent
returns-in_err-take_in-in-Ok-clause-sent g c =
    let (script, replies, i) = c.loop.invariant in
    let p = err_from_is_err_and c.from_residual-in_err-take_in-in-Ok.result
    c.from_residual-in_err-take_in-in-Ok.ensures.1 in
    let same = p.2 in
    let (is_output, stopped) = c.in_err-take_in-in-Ok.ensures.takes_in _ script replies i.stands i.none_refused in
    rw p.1 (λ is_input. absurd cc)

pub returns-in_err-take_in-in-Ok-clause-same : goal.returns-in_err-take_in-in-Ok-clause-same
returns-in_err-take_in-in-Ok-clause-same g c =
    SameReferences-trans c.args.desk.now c.loop.desk c.take_in.new.desk c.loop.invariant.2.same c.take_in.ensures.same

pub returns-in-Err-clause-runs : goal.returns-in-Err-clause-runs
returns-in-Err-clause-runs g c =
    let (script, replies, i) = c.loop.invariant in
    let gone_out = c.in_ok-in_between.ensures.settles in (
      stops_reading _ _ _ _ script replies _ (Gives-kept _ _ _ script i.read c.in-Err.ensures.bytes
          c.in-Err.ensures.given) i.stands (Appends-kept _ _ _ _ i.written gone_out.kept) i.none_refused
          (gained_so (λ rs r. inl r) (reads_last _ _ _ _ None i.reads c.in-Err.ensures.call))
          (none_failed_more _ _ _ _ i.none_failed gone_out.none_failed),
      Adds-trans _ _ _ _ _ _ (λ ms ns seen e. SeenSoFar-failed g.W.Sink.contents g.W.Sink.calls g.F.Flushing.is_sent
          g.S.Shelf.files g.F.Flushing.may_fail _ script replies _ _ i.stands _ _ _ _ i.written i.none_failed gone_out
          _ _ _ ms ns c.in-Err.ensures.call seen e) i.seen c.in-Err.ensures.moment,
    )

-- a refused line stopped the run
pub returns-then-branch-clause-runs : goal.returns-then-branch-clause-runs
returns-then-branch-clause-runs g c =
    let (script, replies, i) = c.loop.invariant in
    let gone_out = c.in_ok-in_between.ensures.settles in
    let done = c.in_ok-take_in-in-Ok.ensures in
    let bound = c.in-Ok.ensures.bound.1 in
    let made = read_is _ _ _ _ c.in-Ok.ensures.bound.1 c.in-Ok.ensures.call in
    let (used, unused, is, s, seen, stops, refused, some) = taken_to _ _ _ true _ _ _ _ _ _ _ _ c.if-branch.true
    (done.takes_in _ script replies i.stands i.none_refused) in
    Runs-halted g.W.Sink.contents g.W.Sink.calls g.F.Flushing.is_sent g.S.Shelf.files g.F.Flushing.may_fail _ _ script _
    used unused replies _ _ _ _ _ _ (Gives-trans _ _ _ script _ i.read (c.in-Ok.ensures.bytes.0, c.in-Ok.ensures.given))
    is s (Appends-kept _ _ _ _ i.written gone_out.kept) c.flush_at_the_end.ensures.kept
    (reads_gave _ _ _ _ _ i.reads made (omega (arith, bound))) refused some
    (whole_replied _ script replies _ _ i.stands) (InOrder-read g.W.Sink.contents g.W.Sink.calls g.F.Flushing.is_sent
    g.S.Shelf.files g.F.Flushing.may_fail _ script replies _ _ i.stands _ _ _ _ i.written i.none_failed gone_out _ _ _ _
    _ _ _ _ _ _ _ made i.seen c.in-Ok.ensures.moment (Adds-weaker _ _ _ _ (λ ms m. ManySeen-halted
    g.W.Sink.contents g.W.Sink.calls g.F.Flushing.is_sent g.S.Shelf.files g.F.Flushing.may_fail _ script _ used unused
    replies s.more s.stands.done s.stands.rest _ ms s.stands.begins s.stands.unbroken is m) seen)) _ _
    c.flush_at_the_end.result stops
    (none_failed_more _ _ _ _ (none_failed_more _ _ _ _ i.none_failed gone_out.none_failed) done.calls)
    c.flush_at_the_end.ensures.calls c.flush_at_the_end.ensures.result

pub loop-preserved : goal.loop-preserved
loop-preserved g c =
    let (script, replies, i) = c.loop.invariant in
    let gone_out = c.in_ok-in_between.ensures.settles in
    let done = c.in_ok-take_in-in-Ok.ensures in
    let s = taken_to _ _ _ false _ _ _ _ _ _ _ _ c.if-branch.false (done.takes_in _ script replies i.stands
    i.none_refused) in (
      script ++ take c.in-Ok.count c.read.new.buf,
      replies ++ s.0.more,
      record {
        read = Gives-trans _ _ _ script _ i.read (c.in-Ok.ensures.bytes.0, c.in-Ok.ensures.given);
        stands = s.0.stands;
        written = Appends-texts _ _ _ replies s.0.more (Appends-kept _ _ _ _ i.written gone_out.kept) s.0.written;
        none_failed = none_failed_more _ _ _ _ (none_failed_more _ _ _ _ i.none_failed gone_out.none_failed) done.calls;
        reads = reads_on_more _ _ _ _ _ _ i.reads c.in-Ok.ensures.call (omega arith) refl;
        seen = InOrder-read g.W.Sink.contents g.W.Sink.calls g.F.Flushing.is_sent g.S.Shelf.files
            g.F.Flushing.may_fail _ script replies _ _ i.stands _ _ _ _ i.written i.none_failed gone_out _ _ _ _ _ _ _ _
            _ _ _ (read_is _ _ _ _ c.in-Ok.ensures.bound.1 c.in-Ok.ensures.call) i.seen c.in-Ok.ensures.moment s.1;
        none_refused = s.2;
        same = SameReferences-trans c.args.desk.now c.loop.desk c.take_in.new.desk i.same c.take_in.ensures.same;
      },
    )

pub returns-in_err-in_between-2-clause-runs : goal.returns-in_err-in_between-2-clause-runs
returns-in_err-in_between-2-clause-runs g c =
    let (script, replies, i) = c.loop.invariant in
    let p = err_from_is_err_and c.from_residual-in_err-in_between-2.result
    c.from_residual-in_err-in_between-2.ensures.1 in
    let f = c.in_err-in_between-2.ensures.settles in
    rw (p.1, p.2, f.is_output) (
      stops_before_read _ _ _ _ script replies _ i.read i.stands (Appends-kept _ _ _ _ i.written f.kept)
          i.none_refused f.may
          (gave_well i.reads) (last_failed_after _ _ _ _ i.none_failed f.failed),
      (length (whole_lines script), i.seen, inl (refl, refl)),
    )

pub returns-clause-runs : goal.returns-clause-runs
returns-clause-runs g c =
    let (script, replies, i) = c.loop.invariant in
    let gone_out = c.in_ok-in_between-2.ensures.settles in (
      stops_reading _ _ _ _ script replies _ i.read i.stands (Appends-kept _ _ _ _ i.written gone_out.kept)
          i.none_refused (gained_so (λ rs r. let count = r.1 in inr (r.0, omega (arith, count))) i.reads)
          (none_failed_more _ _ _ _ i.none_failed gone_out.none_failed),
      i.seen,
    )
