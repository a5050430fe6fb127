-- What a run did over streams whose calls are all known.
use Rattle.std.proofs.Common.{◌≡◌, ◌≤◌, ℕ, ◌+◌, ◌⊎◌, List, [], ◌∷◌, ◌++◌, length, Option, Some, None, Result, Ok, Err}
use Rattle.std.proofs.Common.{Bool, true, false, MatchResult, sym, ap, ◌∙◌, subst, inl, inr, append-nil}
use Rattle.std.specs.Io.KnownBytes.{Appends, IsAtEnd}
use Rattle.s2shelf.specs.Shelf.{Files}
use Rattle.s2calc.specs.declared.engine.Tally.{Tally}
use Rattle.s2calc.specs.declared.fault.RunFault.{RunFault}
use Rattle.s2calc.specs.declared.fault.RunFault.TheVariants.{Input, Output, Memory}
use Rattle.s2calc.specs.declared.limits.TheConstants.{MOST_WAITING}
use Rattle.s2calc.specs.World.{World}
use Rattle.s2calc.specs.Replies.{Reply}
use Rattle.s2calc.specs.Notes.{Noted}
use Rattle.s2calc.specs.Run.{Known, known, Did, WereReadWhole, Ends, EndsOrHalts, NoneAfterRefused, Ran, Runs}
use Rattle.s2calc.specs.Calls as calls
use Rattle.s2calc.specs.Calls.{Call, Gains, Gained, AllWell}
use Rattle.s2calc.specs.Buffered.{Buffered, written_to}
use Rattle.s2calc.specs.Moments.{Moment, bytes_read, reads_seen, begun_in, ended_in, Adds}
use Rattle.s2calc.specs.Order as order
use Rattle.s2calc.specs.Order.{EachMay, Ordered}
use Rattle.s2calc.specs.Reads.{ReadsLast}
use Rattle.s2calc.proofs.CallLemmas.{none_failed_may, last_failed_may}
use Rattle.s2calc.proofs.OrderLemmas.{EachMay-so}
use Rattle.s2process.specs.Ends.{LastFailed}
use Rattle.s2process.specs.Process.{RunsListed}
use Rattle.s2process.specs.Explained.{Explains}

-- what was written since nothing was
since : (a wa b wb written : List ℕ) → a ≡ [] → wa ≡ [] → b ++ wb ≡ (a ++ wa) ++ written → b ++ wb ≡ written
since a wa b wb written a0 wa0 is = is ∙ ap (λ xs. (xs ++ wa) ++ written) a0 ∙ ap (λ xs. xs ++ written) wa0

abbrev inside : {A : Type 0} → List A → Option (List A) → List A
inside none None = none
inside none (Some xs) = xs

-- what a known list gained
pub gained_known : {A : Type 0} (old new more : List A) → Gains (Some old) (Some new) more → new ≡ old ++ more
gained_known old new more g = g.2 ∙ ap (λ xs. xs ++ more) (sym (ap (inside []) g.1))

-- what a list gained that was empty
gained : {A : Type 0} (old new more : List A) → old ≡ [] → Gains (Some old) (Some new) more → new ≡ more
gained old new more none g = gained_known old new more g ∙ ap (λ xs. xs ++ more) none

-- what holds of what a list gained that was empty holds of all of it
pub of_all : {A : Type 0} (old new : List A) (P : List A → Type 0) → old ≡ [] → Gained (Some old) (Some new) P → P new
of_all old new P none g = subst P (sym (gained old new g.more none g.gained)) g.holds

module _ {V S : Type 0} (taken : V → List ℕ) (called : V → List Call) (files : S → Files) (start : World)
    (first : Buffered V) (nothing : taken first.writer ≡ []) (none_waits : first.waiting ≡ [])
    (not_called : called first.writer ≡ []) where
  abbrev contents : Buffered V → Option (List ℕ)
  contents b = written_to (λ v. Some (taken v)) b

  abbrev known_calls : Buffered V → Option (List Call)
  known_calls b = Some (called b.writer)

  abbrev sent : Buffered V → Type 0
  sent b = b.waiting ≡ []

  abbrev Each : List Reply → List (Moment (Buffered V) S) → Type 0
  Each all moments = EachMay (λ buffer bytes. taken buffer.writer ++ buffer.waiting ≡ bytes)
      (λ buffer Holds. Holds (called buffer.writer)) (λ buffer. buffer.waiting ≡ []) files (Unit {0}) start all []
      moments

  each : (all : List Reply) (moments : List (Moment (Buffered V) S)) →
      order.Each contents known_calls sent files (Unit {0}) start first all [] moments → Each all moments
  each all moments e = EachMay-so sent files (Unit {0}) start
      (λ b bytes out. since (taken first.writer) first.waiting (taken b.writer) b.waiting bytes nothing none_waits out)
      (λ b Holds h. of_all (called first.writer) (called b.writer) Holds not_called h) all all []
      (sym (append-nil all)) [] moments e

  -- the moments of the run, where none were seen before
  all_seen : {P : List (Moment (Buffered V) S) → Type 0} (old new : List (Moment (Buffered V) S)) → old ≡ [] →
      Adds (Some old) (Some new) P → P new
  all_seen {P} old new none a =
      subst P (sym (a.3 ∙ ap (λ xs. xs ++ a.1) (sym (ap (inside []) a.2) ∙ none))) a.4

  module _ (now : World) (last : Buffered V) (ahead_old ahead_new : Option (List ℕ)) (given_old given_new : List ℕ)
      (reads_old reads_new : List (Option ℕ)) (noted_old noted_new : Noted) (not_given : given_old ≡ [])
      (not_read : reads_old ≡ []) where
    abbrev old : Known
    old =
        known start (record { ahead = ahead_old; given = Some given_old }) (Some reads_old) (contents first)
        (known_calls first) noted_old

    abbrev new : Known
    new =
        known now (record { ahead = ahead_new; given = Some given_new }) (Some reads_new) (contents last)
        (known_calls last) noted_new

    abbrev InOrder : Ran old new → ℕ → ℕ → List (Moment (Buffered V) S) → Type 0
    InOrder ran begun ended moments =
        order.InOrder contents known_calls sent files (Unit {0}) start first ran.did.replies ran.script begun ended
        (Some reads_old) (Some reads_new) moments

    module _ (ran : Ran old new) where
      pub written_is : taken last.writer ++ last.waiting ≡ ran.written
      written_is = since (taken first.writer) first.waiting (taken last.writer) last.waiting ran.written nothing
          none_waits ran.appended

      abbrev pub did : Did start now (taken last.writer ++ last.waiting)
      did = record {
        done = ran.did.done;
        replies = ran.did.replies;
        left = ran.did.left;
        steps = ran.did.steps;
        texts_are = ran.did.texts_are ∙ ap (λ xs. xs ++ ran.did.left) (sym written_is);
        all_but_last = (ran.did.all_but_last.0, written_is ∙ ran.did.all_but_last.1);
      }

      -- the script is what the reads gave
      script_is : given_new ≡ ran.script
      script_is = gained given_old given_new ran.script not_given ran.read.1

      reads_are : reads_new ≡ ran.reads
      reads_are = gained reads_old reads_new ran.reads not_read ran.made

      calls_are : called last.writer ≡ ran.called
      calls_are = gained (called first.writer) (called last.writer) ran.called not_called ran.called_are

      read_whole : (ls : List (List ℕ)) →
          WereReadWhole ran.script (ReadsLast (Some 0) ran.reads × IsAtEnd ahead_new) ls →
          WereReadWhole ran.script (ReadsLast (Some 0) ran.reads) ls
      read_whole ls (inl p) = inl p
      read_whole ls (inr p) = inr (p.0, p.1.0)

      -- the script has ended if the last read gave nothing
      by_reads : (result : Result Tally RunFault) →
          Ends ran.script (ReadsLast (Some 0) ran.reads × IsAtEnd ahead_new) (Unit {0}) ran.reads ran.called did result
          → Ends ran.script (ReadsLast (Some 0) ran.reads) (Unit {0}) ran.reads ran.called did result
      by_reads (Ok tally) e = ((e.0.0, e.0.1.0, e.0.2), e.1, e.2, e.3)
      by_reads (Err Input) e = e
      by_reads (Err Output) (inl i, well, failed) = (inl (read_whole ran.did.done i.0, i.1), well, failed)
      by_reads (Err Output) (inr (inl all), well, failed) = (inr (inl (all.0, all.1.0, all.2)), well, failed)
      by_reads (Err Output) (inr (inr (_, inl w)), well, failed) = (inr (inr (tt, inl w)), well, failed)
      by_reads (Err Output) (inr (inr (_, inr b)), well, failed) = (
        inr (inr (
          tt,
          inr (record {
            before = b.before;
            line = b.line;
            read_whole = read_whole (b.before ++ b.line ∷ []) b.read_whole;
            has_file = b.has_file;
            done_are = b.done_are;
            none_left = b.none_left;
          }),
        )),
        well,
        failed,
      )
      by_reads (Err Memory) e = e

      -- the same of a run that may have been stopped by a refused line
      by_lists : (stops : Bool) (result : Result Tally RunFault) →
          EndsOrHalts ran.script (ReadsLast (Some 0) ran.reads × IsAtEnd ahead_new) stops (Unit {0}) ran.reads
          ran.called did result
          → EndsOrHalts ran.script (ReadsLast (Some 0) ran.reads) stops (Unit {0}) ran.reads ran.called did result
      by_lists stops result (inl e) = inl (by_reads result e)
      by_lists stops result (inr h) = inr h

      -- the end of the run, by its lists
      ends_of : (stops : Bool) (result : Result Tally RunFault) →
          EndsOrHalts ran.script (ReadsLast (Some 0) ran.reads × IsAtEnd ahead_new) stops (Unit {0}) ran.reads
          ran.called did result
          → EndsOrHalts given_new (ReadsLast (Some 0) reads_new) stops (Unit {0}) reads_new (called last.writer) did
          result
      ends_of stops result e =
          subst (λ s. EndsOrHalts s (ReadsLast (Some 0) reads_new) stops (Unit {0}) reads_new (called last.writer) did
          result) (sym script_is)
          (subst (λ rs. EndsOrHalts ran.script (ReadsLast (Some 0) rs) stops (Unit {0}) rs (called last.writer) did
          result) (sym reads_are)
          (subst (λ cs. EndsOrHalts ran.script (ReadsLast (Some 0) ran.reads) stops (Unit {0}) ran.reads cs did result)
          (sym calls_are) (by_lists stops result e)))

      halts_of : NoneAfterRefused ran.script ran.reads ran.did.replies →
          NoneAfterRefused given_new reads_new ran.did.replies
      halts_of h = subst (λ s. NoneAfterRefused s reads_new ran.did.replies) (sym script_is)
          (subst (λ rs. NoneAfterRefused ran.script rs ran.did.replies) (sym reads_are) h)

      made_are : {begun ended : ℕ} {moments : List (Moment (Buffered V) S)} → InOrder ran begun ended moments →
          reads_seen moments ≡ reads_new
      made_are {moments = moments} s = sym (gained reads_old reads_new (reads_seen moments) not_read s.made)

    counted : (moments : List (Moment (Buffered V) S)) (done : ℕ) (left : List ℕ) (ended : ℕ) →
        ended_in moments ≡ ended → ((ended ≡ done) × (left ≡ [])) ⊎ (ended + 1 ≡ done)
        → ((ended_in moments ≡ done) × (left ≡ [])) ⊎ (ended_in moments + 1 ≡ done)
    counted moments done left ended is (inl e) = inl (is ∙ e.0, e.1)
    counted moments done left ended is (inr e) = inr (ap (λ n. n + 1) is ∙ e)

    -- a run without memory wasn't stopped by a line
    memory_ends : (stops : Bool) (ran : Ran old new) (Ended : Type 0) →
        EndsOrHalts ran.script Ended stops (Unit {0}) ran.reads ran.called ran.did (Err Memory) →
        Ends ran.script Ended (Unit {0}) ran.reads ran.called ran.did (Err Memory)
    memory_ends stops ran Ended (inl e) = e
    memory_ends stops ran Ended (inr h) = absurd h.1

    pub process : (stops : Bool) (seen_old seen_new : List (Moment (Buffered V) S)) (result : Result Tally RunFault)
        → seen_old ≡ []
        → (runs : (r : Runs stops (Unit {0}) old new result)
        × Ordered contents known_calls sent files (Unit {0}) start first r.ran (Some seen_old) (Some seen_new) result)
        → MatchResult result (λ _. last.waiting ≡ []) (λ fault. fault ≡ Input → last.waiting ≡ [])
        → length last.waiting ≤ MOST_WAITING
        → RunsListed taken called files stops given_new reads_new start now seen_new last.writer last.waiting result
    process stops seen_old seen_new (Ok tally) none (r, ordered) waits few =
        let s = all_seen seen_old seen_new none ordered in
        record {
          did = did r.ran;
          read = s.0.read ∙ sym (script_is r.ran);
          made = made_are r.ran s.0;
          ends = ends_of r.ran stops (Ok tally) r.ends;
          halts = λ e. halts_of r.ran (r.halts e);
          none_wait = waits;
          few_wait = few;
          each = each r.ran.did.replies seen_new s.0.each;
          counts = (s.0.begins, s.0.ends);
        }
    process stops seen_old seen_new (Err Input) none (r, ordered) waits few =
        let s = all_seen seen_old seen_new none ordered in
        record {
          did = did r.ran;
          read = s.read ∙ sym (script_is r.ran);
          made = made_are r.ran s;
          ends = ends_of r.ran stops (Err Input) r.ends;
          halts = λ e. halts_of r.ran (r.halts e);
          none_wait = waits;
          few_wait = few;
          each = each r.ran.did.replies seen_new s.each;
          counts = (s.begins, s.ends);
        }
    process stops seen_old seen_new (Err Output) none (r, ordered) waits few =
        let s = all_seen seen_old seen_new none ordered.1 in
        record {
          did = did r.ran;
          read = s.read ∙ sym (script_is r.ran);
          made = made_are r.ran s;
          ends = ends_of r.ran stops (Err Output) r.ends;
          halts = λ e. halts_of r.ran (r.halts e);
          none_wait = waits;
          few_wait = few;
          each = each r.ran.did.replies seen_new s.each;
          counts = (
            s.begins,
            counted seen_new (length r.ran.did.done) r.ran.did.left ordered.0 s.ends ordered.2,
          );
        }
    process stops seen_old seen_new (Err Memory) none (r, ordered) waits few =
        let s = all_seen seen_old seen_new none ordered in
        let ends = memory_ends stops r.ran (ReadsLast (Some 0) r.ran.reads × IsAtEnd ahead_new) r.ends in
        let none_done = ap length ends.0 in
        record {
          did = did r.ran;
          read = ap (λ (ms : List (Moment (Buffered V) S)). bytes_read ms) s
              ∙ sym (ap (λ (k : Known). inside [] k.input.given) r.unchanged ∙ not_given);
          made = ap (λ (ms : List (Moment (Buffered V) S)). reads_seen ms) s ∙ sym (reads_are r.ran ∙ ends.1);
          ends = ends_of r.ran stops (Err Memory) r.ends;
          halts = λ e. halts_of r.ran (r.halts e);
          none_wait = waits;
          few_wait = few;
          each = subst (Each r.ran.did.replies) (sym s) tt;
          counts = (
            ap (λ (ms : List (Moment (Buffered V) S)). begun_in ms) s ∙ sym none_done,
            ap (λ (ms : List (Moment (Buffered V) S)). ended_in ms) s ∙ sym none_done,
          );
        }

    -- the notes, where none was written before
    module _ (taken_old taken_new : List ℕ) (called_old called_new : List Call) (stopped : Bool)
        (none_taken : taken_old ≡ []) (none_called : called_old ≡ []) (old_is : noted_old.contents ≡ Some taken_old)
        (new_is : noted_new.contents ≡ Some taken_new) (old_calls : noted_old.calls ≡ Some called_old)
        (new_calls : noted_new.calls ≡ Some called_new) (stopped_is : noted_new.stopped ≡ stopped) where
      all_taken : (ran : Ran old new) → taken_new ≡ ran.noted.part
      all_taken ran =
          let w = ran.noted in
          let all : taken_new ≡ taken_old ++ w.part = subst (λ (o : Option (List ℕ)). Appends o (Some taken_new)
          w.part) old_is
          (subst (λ (o : Option (List ℕ)). Appends noted_old.contents o w.part) new_is w.written) in
          all ∙ ap (λ xs. xs ++ w.part) none_taken

      -- what is said of the calls that are known
      of_calls : (P : Option (List Call) → Option (List Call) → Type 0) → P noted_old.calls noted_new.calls →
          P (Some called_old) (Some called_new)
      of_calls P p = subst (P (Some called_old)) new_calls (subst (λ o. P o noted_new.calls) old_calls p)

      notes_written : (ran : Ran old new) → noted_old.stopped ≡ false →
          Explains (did ran) taken_new called_new stopped
      notes_written ran writes =
          let w = ran.noted in
          record {
            rest = w.rest;
            notes_are = w.notes_are ∙ ap (λ xs. xs ++ w.rest) (sym (all_taken ran));
            whole = λ e. let h = w.whole (stopped_is ∙ e) in (
              h.0,
              of_all called_old called_new (AllWell (Unit {0})) none_called
                  (none_failed_may (Unit {0}) (Some called_old) (Some called_new) (of_calls (calls.NoneFailed ⊥) h.1)),
            );
            lacking = λ e. let h = w.lacking writes (stopped_is ∙ e) in (
              h.0,
              of_all called_old called_new LastFailed none_called
                  (last_failed_may (Unit {0}) (Some called_old) (Some called_new) (of_calls (calls.LastFailed ⊥) h.1)),
            );
          }

      -- a writer of notes that had stopped was not called
      silent : (ran : Ran old new) → noted_old.stopped ≡ true → (taken_new ≡ []) × (called_new ≡ [])
      silent ran e =
          let (no_part, same_calls, stays) = ran.noted.stays e in (
            all_taken ran ∙ no_part,
            ap (inside []) (sym new_calls ∙ same_calls ∙ old_calls) ∙ none_called,
          )

      pub explains : (stops : Bool) (seen_old seen_new : List (Moment (Buffered V) S))
          (result : Result Tally RunFault) →
          (none : seen_old ≡ [])
          → (runs : (r : Runs stops (Unit {0}) old new result)
          × Ordered contents known_calls sent files (Unit {0}) start first r.ran (Some seen_old) (Some seen_new) result)
          → (waits : MatchResult result (λ _. last.waiting ≡ []) (λ fault. fault ≡ Input → last.waiting ≡ []))
          → (few : length last.waiting ≤ MOST_WAITING)
          → (noted_old.stopped ≡ false
          → Explains (process stops seen_old seen_new result none runs waits few).did taken_new called_new stopped)
          × (noted_old.stopped ≡ true → (taken_new ≡ []) × (called_new ≡ []))
      unfolding process
      explains stops seen_old seen_new (Ok tally) none (r, ordered) waits few = (notes_written r.ran, silent r.ran)
      explains stops seen_old seen_new (Err Input) none (r, ordered) waits few = (notes_written r.ran, silent r.ran)
      explains stops seen_old seen_new (Err Output) none (r, ordered) waits few = (notes_written r.ran, silent r.ran)
      explains stops seen_old seen_new (Err Memory) none (r, ordered) waits few = (notes_written r.ran, silent r.ran)
