use Rattle.std.proofs.Common.{ap, refl}
use Rattle.s2process.specs.StreamCalls.{given_in, taken_in, called_in, reads_in}
use Rattle.s2process.specs.Listed.{taken, called, moments_of}
use Rattle.s2process.proofs.ProcessLemmas.{process, explains}
use Rattle.s2process.proofs.run.run_listed.Goals as goal

pub returns : goal.returns
returns g c =
    let ran = c.run_with-result.ensures in
    let last = c.run_with-result.new in
    let few = c.waiting_len.ensures.few in
    let noted = explains taken called _ _ c.args.writer.now (ap taken_in c.requires.nothing_written)
    c.requires.nothing_waits (ap called_in c.requires.nothing_written) _ last.writer _ _ _ _ _ _ _ _
    (ap given_in c.requires.nothing_read) (ap reads_in c.requires.nothing_read) (taken c.args.notes.now.writer)
    (taken last.notes.writer) (called c.args.notes.now.writer) (called last.notes.writer) last.notes.stopped
    (ap taken_in c.requires.no_notes) (ap called_in c.requires.no_notes) refl refl refl refl refl c.args.stops
    (moments_of c.args.observer.now) (moments_of last.observer) _ c.requires.nothing_seen ran.runs ran.sent few in (
      process taken called _ _ c.args.writer.now (ap taken_in c.requires.nothing_written) c.requires.nothing_waits
          (ap called_in c.requires.nothing_written) _ last.writer _ _ _ _ _ _ _ _
          (ap given_in c.requires.nothing_read) (ap reads_in c.requires.nothing_read) c.args.stops
          (moments_of c.args.observer.now) (moments_of last.observer) _ c.requires.nothing_seen ran.runs ran.sent few,
      noted.0,
      noted.1,
    )
