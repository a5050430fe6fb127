-- Lemmas on a whole run.
use Rattle.std.proofs.Common.{◌≡◌, ◌∙◌, ◌<◌, ◌+◌, ℕ, Bool, true, List, [], ◌∷◌, ◌++◌, Option, Some, Ok, Err}
use Rattle.std.proofs.Common.{length, take, refl, sym, ap, subst, append-nil, length-append, arith}
use Rattle.std.proofs.Common.{◌⊎◌, inl, inr}
use Rattle.std.proofs.lemmas.List.Concat.{flat_map-append}
use Rattle.std.specs.Io.KnownBytes.{Appends, Keeps, IsAtEnd}
use Rattle.std.proofs.KnownBytes.{Appends-nil, Appends-trans, Appends-kept, Consumes-nil, Consumes-trans, Consumes-kept}
use Rattle.s2calc.specs.declared.engine.Tally.{Tally}
use Rattle.s2calc.specs.declared.progress.Progress.{Progress}
use Rattle.s2calc.specs.declared.fault.RunFault.TheVariants.{Input, Output, Memory}
use Rattle.s2script.specs.Lines.{lines, whole_lines, but_last, BeginsWith}
use Rattle.s2calc.specs.Replies.{Reply, text_of, texts, tally_of, NoneRefused}
use Rattle.s2calc.specs.World.{World}
use Rattle.s2calc.specs.Notes.{WritesNotes, notes_of}
use Rattle.s2calc.specs.Calls.{Call, Gains, Gained, NoneFailed, LastFlushed, LastFailed}
use Rattle.s2calc.specs.Reads.{ReaderState, Gives, AllGave, ReadsLast, ReadsStop, ReadsWell}
use Rattle.s2calc.specs.Run.{Steps, Known, Did, LastIsFirstRefused, NoneAfterRefused, Ran, came_out, Runs}
use Rattle.s2calc.specs.Working.Stands.{Explains, IsCutOff, point, Stands, StopsIn, Ended}
use Rattle.s2calc.specs.Working.Stands.{EndsInPart, EndsUnflushed, EndsBefore}
use Rattle.s2calc.proofs.CallLemmas.{gains_nil, gains_more}
use Rattle.s2calc.proofs.LineLemmas.{whole_lines_begun}
use Rattle.s2calc.proofs.CloseLemmas.{IsCutOff-after}
use Rattle.s2calc.proofs.NoteLemmas.{WritesNotes-none}

-- ---- what a reader gave

pub Gives-nil : (a : ReaderState) → Gives a a []
Gives-nil a = (Consumes-nil a.ahead, gains_nil a.given)

pub Gives-trans : (a b c : ReaderState) (bs cs : List ℕ) → Gives a b bs → Gives b c cs → Gives a c (bs ++ cs)
Gives-trans a b c bs cs p q = (
  Consumes-trans a.ahead b.ahead c.ahead bs cs p.0 q.0,
  gains_more a.given b.given c.given bs cs p.1 q.1,
)

pub Gives-none : (a b c : ReaderState) (bs buf : List ℕ) (n : ℕ) → n ≡ 0 → Gives a b bs → Gives b c (take n buf) →
    Gives a c bs
Gives-none a b c bs buf n e p q =
    let none : take n buf ≡ [] = ap (λ k. take k buf) e in
    subst (Gives a c) (append-nil bs) (Gives-trans a b c bs [] p (subst (Gives b c) none q))

-- a read failed
pub Gives-kept : (a b c : ReaderState) (bs : List ℕ) → Gives a b bs → Keeps b.ahead c.ahead → Gains b.given c.given [] →
    Gives a c bs
Gives-kept a b c bs p k g = (
  Consumes-kept a.ahead b.ahead c.ahead bs p.0 k,
  subst (Gains a.given c.given) (append-nil bs) (gains_more a.given b.given c.given bs [] p.1 g),
)

pub Appends-texts : (a b c : Option (List ℕ)) (before more : List Reply) → Appends a b (texts before) →
    Appends b c (texts more) → Appends a c (texts (before ++ more))
Appends-texts a b c before more p q = subst (Appends a c) (sym (flat_map-append text_of before more))
    (Appends-trans a b c (texts before) (texts more) p q)

pub came_out-some : (replies : List Reply) (left : List ℕ) → 0 < length left → came_out replies left ≡ but_last replies
came_out-some replies [] h = absurd (omega arith)
came_out-some replies (byte ∷ left) h = refl

-- the last line that was carried out was seen to begin, and also to end if its answer was written and no flush failed
-- after it
abbrev pub Fails : {old new : Known} → (List Reply → List ℕ → ℕ → ℕ → Type 0) → Ran old new → Type 0
Fails Seen ran = (ended : ℕ) × Seen ran.did.replies ran.script (length ran.did.done) ended
    × (((ended ≡ length ran.did.done) × (ran.did.left ≡ [])) ⊎ (ended + 1 ≡ length ran.did.done))

-- an answer that lacks some bytes
pub cut_off : {start now : World} {written : List ℕ} (did : Did start now written) → 0 < length did.left →
    IsCutOff written did.replies
cut_off {written = written} did h =
    let more = did.all_but_last in
    record {
      rest = did.left;
      beginning = did.texts_are;
      lacking = h;
      all_but_last = (
        more.0,
        subst (λ rs. written ≡ texts rs ++ more.0) (came_out-some did.replies did.left h) more.1,
      );
    }

module _ (old new : Known) where
  -- nothing is missing
  pub all_out : (ran : Ran old new) → ran.did.left ≡ [] → Appends old.output new.output (texts ran.did.replies)
  all_out ran e = subst (Appends old.output new.output)
      (sym (ran.did.texts_are ∙ ap (λ left. ran.written ++ left) e ∙ append-nil ran.written)) ran.appended

  -- what a run did by these reads and calls
  module _ {P : List (Option ℕ) → Type 0} {Q : List Call → Type 0} (r : Gained old.reads new.reads P)
      (c : Gained old.calls new.calls Q) (script : List ℕ) (done : List (List ℕ)) (replies : List Reply)
      (read : Gives old.input new.input script) (steps : Steps old.world done replies new.world) where
    -- all answers were written
    abbrev pub all_came : Appends old.output new.output (texts replies) →
        Explains (point old.world old.noted) (point new.world new.noted) done replies → Ran old new
    all_came w n = record {
      script = script;
      reads = r.more;
      written = texts replies;
      called = c.more;
      did = record {
        done = done;
        replies = replies;
        left = [];
        steps = steps;
        texts_are = sym (append-nil (texts replies));
        all_but_last = ([], sym (append-nil (texts replies)));
      };
      read = read;
      made = r.gained;
      appended = w;
      called_are = c.gained;
      noted = n;
    }

    -- some bytes of the last answer are missing
    abbrev pub last_cut : (bytes : List ℕ) → Appends old.output new.output bytes → IsCutOff bytes replies →
        Explains (point old.world old.noted) (point new.world new.noted) done (but_last replies) → Ran old new
    last_cut bytes w k n =
        let same = sym (came_out-some replies k.rest k.lacking) in
        let more = k.all_but_last in
        record {
          script = script;
          reads = r.more;
          written = bytes;
          called = c.more;
          did = record {
            done = done;
            replies = replies;
            left = k.rest;
            steps = steps;
            texts_are = k.beginning;
            all_but_last = (more.0, subst (λ rs. bytes ≡ texts rs ++ more.0) same more.1);
          };
          read = read;
          made = r.gained;
          appended = w;
          called_are = c.gained;
          noted = subst (λ rs. WritesNotes old.noted (notes_of done rs) new.noted) same n;
        }

  module _ (stops : Bool) (may : Type 0) (script : List ℕ) (replies : List Reply) where
    module _ (progress : Progress) (read : Gives old.input new.input script)
        (s : Stands (point old.world old.noted) script replies (point new.world new.noted) progress)
        (w : Appends old.output new.output (texts replies)) (none : stops ≡ true → NoneRefused replies) where
      pub whole_done : whole_lines script ≡ s.done
      whole_done = whole_lines_begun script s.done s.rest s.begins s.unbroken

      -- the lines that were read whole were carried out
      abbrev whole : {P : List (Option ℕ) → Type 0} {Q : List Call → Type 0} → Gained old.reads new.reads P →
          Gained old.calls new.calls Q → Ran old new
      whole r c = all_came r c script (whole_lines script) replies read
          (subst (λ ls. Steps old.world ls replies new.world) (sym whole_done) s.run) w
          (subst (λ ls. Explains (point old.world old.noted) (point new.world new.noted) ls replies) (sym whole_done)
          s.noted)

      abbrev pub stops_reading : Gained old.reads new.reads ReadsStop → NoneFailed may old.calls new.calls →
          Runs stops may old new (Err Input)
      stops_reading r c = record {
        ran = whole r c;
        ends = inl ((refl, refl), r.holds, c.holds);
        halts = λ e. inl (none e);
        unchanged = tt;
      }

      -- a flush before a read failed
      abbrev pub stops_before_read : may → Gained old.reads new.reads ReadsWell → LastFailed may old.calls new.calls →
          Runs stops may old new (Err Output)
      stops_before_read m r c = record {
        ran = whole r c;
        ends = inl (inr (inr (m, inl (refl, refl))), r.holds, c.holds);
        halts = λ e. inl (none e);
        unchanged = tt;
      }

    module _ (Here : List Reply → ℕ → ℕ → Type 0) (Seen : List Reply → List ℕ → ℕ → ℕ → Type 0)
        {P : List (Option ℕ) → Type 0} (halts : (rs : List Reply) (bytes : List ℕ) (reads : List (Option ℕ))
        (begins ends : ℕ) → P reads → Seen rs bytes begins ends → stops ≡ true → NoneAfterRefused bytes reads rs) where
      -- a line that ends in the chunk stopped the run
      pub stops_in_chunk : ((reads : List (Option ℕ)) → P reads → ReadsWell reads) → Gained old.reads new.reads P →
          LastFailed may old.calls new.calls
          → (input : ReaderState) (output : Option (List ℕ)) (chunk : List ℕ) →
          Gives old.input input script → Gives input new.input chunk → Appends old.output output (texts replies)
          → ((more : List Reply) (begins ends : ℕ) → Here more begins ends →
          Seen (replies ++ more) (script ++ chunk) begins ends)
          → StopsIn may Here (point old.world old.noted) script replies chunk (point new.world new.noted) output
          new.output
          → (run : Runs stops may old new (Err Output)) × Fails Seen run.ran
      stops_in_chunk well reads calls input output chunk r q w seen (inl s) =
          let read = Gives-trans old.input input new.input script chunk r q in
          let cut = IsCutOff-after replies s.more s.bytes s.cut_off in (
            record {
              ran = last_cut reads calls (script ++ chunk) s.done (replies ++ s.more) read s.run
                  (texts replies ++ s.bytes)
                  (Appends-trans old.output output new.output (texts replies) s.bytes w s.written) cut s.noted;
              ends = inl (inl (inl (s.rest, s.begins), cut.lacking), well reads.more reads.holds, calls.holds);
              halts = halts (replies ++ s.more) (script ++ chunk) reads.more (length s.done) s.ended reads.holds
                  (seen s.more (length s.done) s.ended s.seen);
              unchanged = tt;
            },
            (s.ended, seen s.more (length s.done) s.ended s.seen, inr s.one_more),
          )
      stops_in_chunk well reads calls input output chunk r q w seen (inr f) =
          let s = f.1 in
          let read = Gives-trans old.input input new.input script chunk r q in
          let which : ((length s.before ≡ length s.done) × ([] ≡ [])) ⊎ (length s.before + 1 ≡ length s.done) =
          elim s.done_are [
            | inl e ↦ inl (ap length (sym e), refl)
            | inr e ↦ inr (
                let long = ap length e in let one = length-append s.before (s.line ∷ []) in omega (arith, long, one)
                )
          ] in (
            record {
              ran = all_came reads calls (script ++ chunk) s.done (replies ++ s.more) read s.run
                  (Appends-texts old.output output new.output replies s.more w s.written) s.noted;
              ends = inl (
                inr (inr (
                  f.0,
                  inr (record {
                    before = s.before;
                    line = s.line;
                    read_whole = inl (s.rest, s.begins);
                    has_file = s.has_file;
                    done_are = s.done_are;
                    none_left = refl;
                  }),
                )),
                well reads.more reads.holds,
                calls.holds,
              );
              halts = halts (replies ++ s.more) (script ++ chunk) reads.more (length s.done) (length s.before)
                  reads.holds (seen s.more (length s.done) (length s.before) s.seen);
              unchanged = tt;
            },
            (length s.before, seen s.more (length s.done) (length s.before) s.seen, which),
          )

      -- the last line or the last flush stopped the run
      pub stops_at_end : ((reads : List (Option ℕ)) → P reads → ReadsLast (Some 0) reads) → (output : Option (List ℕ))
          → Gives old.input new.input script → IsAtEnd new.input.ahead → Appends old.output output (texts replies)
          → Gained old.reads new.reads P → LastFailed may old.calls new.calls
          → ((more : List Reply) (begins ends : ℕ) → Here more begins ends → Seen (replies ++ more) script begins ends)
          → EndsInPart Here (point old.world old.noted) script replies (point new.world new.noted) output new.output
          ⊎ EndsUnflushed Here (point old.world old.noted) script replies (point new.world new.noted) output new.output
          ⊎ (may × EndsBefore Here (point old.world old.noted) script replies (point new.world new.noted) output
          new.output)
          → (run : Runs stops may old new (Err Output)) × Fails Seen run.ran
      stops_at_end last output read at_end w r c seen (inl s) =
          let cut = IsCutOff-after replies s.more s.bytes s.cut_off in (
            record {
              ran = last_cut r c script (lines script) (replies ++ s.more) read s.run (texts replies ++ s.bytes)
                  (Appends-trans old.output output new.output (texts replies) s.bytes w s.written) cut s.noted;
              ends = inl (
                inl (inr (refl, (last r.more r.holds, at_end)), cut.lacking),
                inr (last r.more r.holds),
                c.holds,
              );
              halts = halts (replies ++ s.more) script r.more (length (lines script)) s.ended r.holds
                  (seen s.more (length (lines script)) s.ended s.seen);
              unchanged = tt;
            },
            (s.ended, seen s.more (length (lines script)) s.ended s.seen, inr s.one_more),
          )
      stops_at_end last output read at_end w r c seen (inr (inl s)) =
          let which : ((s.ended ≡ length (lines script)) × ([] ≡ [])) ⊎ (s.ended + 1 ≡ length (lines script)) =
          elim s.ended_are [
            | inl e ↦ inl (e, refl)
            | inr e ↦ inr e
          ] in (
            record {
              ran = all_came r c script (lines script) (replies ++ s.more) read s.run
                  (Appends-texts old.output output new.output replies s.more w s.written) s.noted;
              ends = inl (
                inr (inl (refl, (last r.more r.holds, at_end), refl)),
                inr (last r.more r.holds),
                c.holds,
              );
              halts = halts (replies ++ s.more) script r.more (length (lines script)) s.ended r.holds
                  (seen s.more (length (lines script)) s.ended s.seen);
              unchanged = tt;
            },
            (s.ended, seen s.more (length (lines script)) s.ended s.seen, which),
          )
      stops_at_end last output read at_end w r c seen (inr (inr f)) =
          let s = f.1 in
          let here = subst (λ rs. Seen rs script (length s.before) (length s.before)) (append-nil replies)
          (seen [] (length s.before) (length s.before) s.seen) in (
            record {
              ran = all_came r c script s.before replies read s.run
                  (Appends-kept old.output output new.output (texts replies) w s.kept) s.noted;
              ends = inl (
                inr (inr (
                  f.0,
                  inr (record {
                    before = s.before;
                    line = s.line;
                    read_whole = inr (s.lines_are, (last r.more r.holds, at_end));
                    has_file = s.has_file;
                    done_are = inl refl;
                    none_left = refl;
                  }),
                )),
                inr (last r.more r.holds),
                c.holds,
              );
              halts = halts replies script r.more (length s.before) (length s.before) r.holds here;
              unchanged = tt;
            },
            (length s.before, here, inl (refl, refl)),
          )

    module _ (output : Option (List ℕ)) (read : Gives old.input new.input script) (at_end : IsAtEnd new.input.ahead)
        (w : Appends old.output output (texts replies)) where
      abbrev pub finishes : (tally : Tally) →
          {Seen : List Reply → ℕ → ℕ → Type 0} →
          (s : Ended Seen (point old.world old.noted) script replies (point new.world new.noted) output new.output
          tally)
          → (r : Gained old.reads new.reads (ReadsLast (Some 0))) → LastFlushed may old.calls new.calls
          → (stops ≡ true → NoneAfterRefused script r.more (replies ++ s.more)) → Runs stops may old new (Ok tally)
      finishes tally s r c halts = record {
        ran = all_came r c script (lines script) (replies ++ s.more) read s.run
            (Appends-texts old.output output new.output replies s.more w s.written) s.noted;
        ends = inl ((refl, (r.holds, at_end), refl), s.tally_is, r.holds, c.holds);
        halts = halts;
        unchanged = tt;
      }

  -- The lines that end in the bytes of the last read, or some of them, were carried out up to a refused line, which
  -- stopped the run.
  module _ (may : Type 0) (script : List ℕ) (done : List (List ℕ)) (replies : List Reply) (unused : List ℕ)
      (read : Gives old.input new.input script) (steps : Steps old.world done replies new.world)
      (w : Appends old.output new.output (texts replies))
      (n : Explains (point old.world old.noted) (point new.world new.noted) done replies)
      (begins : BeginsWith script done unused) (refused : LastIsFirstRefused replies)
      (r : Gained old.reads new.reads AllGave) (halts : NoneAfterRefused script r.more replies) where
    abbrev pub halts_well : (tally : Tally) → tally ≡ tally_of replies → LastFlushed may old.calls new.calls →
        Runs true may old new (Ok tally)
    halts_well tally t c = record {
      ran = all_came r c script done replies read steps w n;
      ends = inr (
        refl,
        (record { unused = unused; begins = begins; refused = refused; none_left = refl }, t, r.holds, c.holds),
      );
      halts = λ e. halts;
      unchanged = tt;
    }

    abbrev pub halts_unflushed : LastFailed may old.calls new.calls → Runs true may old new (Err Output)
    halts_unflushed c = record {
      ran = all_came r c script done replies read steps w n;
      ends = inr (
        refl,
        (record { unused = unused; begins = begins; refused = refused; none_left = refl }, r.holds, c.holds),
      );
      halts = λ e. halts;
      unchanged = tt;
    }

-- no memory: nothing has happened
abbrev pub never_begins : (stops : Bool) (may : Type 0) (at : Known) → Runs stops may at at (Err Memory)
never_begins stops may at = record {
  ran = all_came at at {P = λ _. Unit {0}} {Q = λ _. Unit {0}}
      (record { more = []; gained = gains_nil at.reads; holds = tt })
      (record { more = []; gained = gains_nil at.calls; holds = tt }) [] [] [] (Gives-nil at.input) refl
      (Appends-nil at.output) (WritesNotes-none at.noted);
  ends = inl (refl, refl, refl);
  halts = λ e. inl refl;
  unchanged = refl;
}
