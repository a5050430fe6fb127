-- The desk of a run, which has all that the run works with, and what the functions do that hand it on.
use Rattle.std.specs.Prelude.{◌≡◌, ◌≤◌, ℕ, ◌⊎◌, Bool, true, List, ◌++◌, length, Option, Result, MatchResult}
use Rattle.s2shelf.specs.Shelf.{Files}
use Rattle.s2script.specs.Line.{line_of}
use Rattle.s2calc.specs.declared.desk.Desk.{Desk}
use Rattle.s2calc.specs.declared.engine.Tally.{Tally}
use Rattle.s2calc.specs.declared.fault.RunFault.{RunFault}
use Rattle.s2calc.specs.declared.fault.RunFault.TheVariants.{Output}
use Rattle.s2calc.specs.declared.progress.Progress.{Progress}
use Rattle.s2calc.specs.World.{World, world}
use Rattle.s2script.specs.Lines.{but_last}
use Rattle.s2calc.specs.Replies.{Reply, NoneRefused}
use Rattle.s2calc.specs.Notes.{Noted}
use Rattle.s2calc.specs.Step.{asks_for_file}
use Rattle.s2calc.specs.Calls.{Call}
use Rattle.s2calc.specs.Reads.{ReaderState}
use Rattle.s2calc.specs.Moments.{Moment, Adds}
use Rattle.s2calc.specs.Run.{Known, known, Runs}
use Rattle.s2calc.specs.Order.{Ordered}
use Rattle.s2calc.specs.Working.Stands.{Point, point, Stands, Answered, AnsweredInPart, AnsweredUnflushed, TakenIn}
use Rattle.s2calc.specs.Working.Stands.{StopsIn, Closes}
use Rattle.s2calc.specs.Working.Seen.{LineSeen, LineCut, ManySeen, MoreSeen, EndSeen}

module _ {W S N O : Type 0} where
  -- the same things lie on both desks, as they are at two times
  abbrev pub SameReferences : Desk W S N O → Desk W S N O → Type 0
  SameReferences old new = (new.editor.ghost_name ≡ old.editor.ghost_name)
      × (new.writer.ghost_name ≡ old.writer.ghost_name) × (new.shelf.ghost_name ≡ old.shelf.ghost_name)
      × (new.notes.ghost_name ≡ old.notes.ghost_name) × (new.observer.ghost_name ≡ old.observer.ghost_name)

  -- the state of the editor, and the files
  abbrev pub world_at : (S → Files) → Desk W S N O → World
  world_at files desk = world desk.editor.now (files desk.shelf.now)

  -- what a run has come to
  abbrev pub point_at : (S → Files) → (N → Noted) → Desk W S N O → Point
  point_at files noted desk = point (world_at files desk) (noted desk.notes.now)

  -- what is known of a run, with what is known of its reader: the bytes to come, and the reads
  abbrev pub known_at : (W → Option (List ℕ)) → (W → Option (List Call)) → (S → Files) → (N → Noted) → Desk W S N O →
      ReaderState → Option (List (Option ℕ)) → Known
  known_at contents calls files noted desk input reads =
      known (world_at files desk) input reads (contents desk.writer.now) (calls desk.writer.now) (noted desk.notes.now)

  module _ (contents : W → Option (List ℕ)) (calls : W → Option (List Call)) (is_sent : W → Type 0) (may_flush : Type 0)
      (files : S → Files) (noted : N → Noted) (seen : O → Option (List (Moment W S))) where
    -- these moments were seen, if the observer keeps a list
    abbrev pub Saw : Desk W S N O → (List (Moment W S) → Type 0) → Desk W S N O → Type 0
    Saw old AreThose new = Adds (seen old.observer.now) (seen new.observer.now) AreThose

    -- the line that is kept was carried out and answered, or the writer or a flush failed
    abbrev pub AnswersKept : Desk W S N O → Progress → Desk W S N O → Progress → Result (Unit {0}) RunFault → Type 0
    AnswersKept old before new after result =
        let has_file = asks_for_file (line_of before.kept) in
        let Begun =
        Saw old (LineCut contents calls is_sent files may_flush has_file old.writer.now old.shelf.now) new in
        MatchResult result
        (λ _. Answered (point_at files noted old) before (point_at files noted new) after (contents old.writer.now)
        (contents new.writer.now)
        × Saw old (LineSeen contents calls is_sent files may_flush has_file old.writer.now new.writer.now old.shelf.now
        new.shelf.now) new)
        (λ fault. (fault ≡ Output)
        × (AnsweredInPart Begun (point_at files noted old) before (point_at files noted new) (contents old.writer.now)
        (contents new.writer.now)
        ⊎ (may_flush × AnsweredUnflushed (seen new.observer.now ≡ seen old.observer.now) Begun
        (point_at files noted old) before (point_at files noted new) after (contents old.writer.now)
        (contents new.writer.now))))

    -- The lines that end in these bytes were carried out and answered; or, if the run stops at a refused line, those up
    -- to the first of these were; or the writer or a flush failed.
    abbrev pub TakesIn : Bool → Desk W S N O → Progress → List ℕ → Desk W S N O → Progress → Result Bool RunFault →
        Type 0
    TakesIn stops old before chunk new after result = (start : Point) (script : List ℕ) (replies : List Reply) →
        Stands start script replies (point_at files noted old) before → (stops ≡ true → NoneRefused replies) →
        MatchResult result
        (λ halted. TakenIn (λ used more. Saw old (MoreSeen contents calls is_sent files may_flush start.world script
        used replies more old.writer.now) new) stops halted start script replies chunk (point_at files noted new) after
        (contents old.writer.now) (contents new.writer.now))
        (λ fault. (fault ≡ Output)
        × StopsIn may_flush (λ more begins ends. Saw old (ManySeen contents calls is_sent files may_flush start.world
        script chunk replies more old.writer.now begins ends) new
        × (stops ≡ true → NoneRefused (but_last (replies ++ more)))) start script replies chunk
        (point_at files noted new) (contents old.writer.now) (contents new.writer.now))

    -- the script has ended: its last line was carried out and answered, or the writer or a flush failed
    abbrev pub Finishes : Desk W S N O → Progress → Desk W S N O → Result Tally RunFault → Type 0
    Finishes old before new result = (start : Point) (script : List ℕ) (replies : List Reply) →
        Stands start script replies (point_at files noted old) before →
        Closes may_flush (λ more begins ends. Saw old (EndSeen contents calls is_sent files may_flush start.world script
        replies more old.writer.now begins ends) new × (length more ≤ 1)) start script replies
        (point_at files noted new) (contents old.writer.now) (contents new.writer.now) result

    -- what a run does, and in which order; of its reader the bytes to come and the reads are given, before it and after
    abbrev pub RunsOver : Bool → Desk W S N O → ReaderState → Option (List (Option ℕ)) → Desk W S N O → ReaderState →
        Option (List (Option ℕ)) → Result Tally RunFault → Type 0
    RunsOver stops old input reads new input_left reads_then result =
        (run : Runs stops may_flush (known_at contents calls files noted old input reads)
        (known_at contents calls files noted new input_left reads_then) result)
        × Ordered contents calls is_sent files may_flush (world_at files old) old.writer.now run.ran
        (seen old.observer.now) (seen new.observer.now) result
