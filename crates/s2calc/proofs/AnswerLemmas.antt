-- Lemmas on the line that is kept, and the flushes before and after it.
use Rattle.std.proofs.Common.{◌≡◌, ℕ, ◌+◌, ◌⊎◌, Bool, List, [], ◌∷◌, ◌++◌, Option, Result, Ok, Err, MatchResult}
use Rattle.std.proofs.Common.{◌∙◌, subst, inr}
use Rattle.std.specs.Io.KnownBytes.{Appends, Keeps}
use Rattle.std.proofs.KnownBytes.{Appends-kept, Appends-nil, Appends-trans, Keeps-refl}
use Rattle.s2calc.specs.declared.fault.RunFault.{RunFault}
use Rattle.s2calc.specs.declared.fault.RunFault.TheVariants.{Output}
use Rattle.s2calc.specs.declared.progress.Progress.{Progress}
use Rattle.s2script.specs.declared.command.Parsed.{Parsed}
use Rattle.s2script.specs.Line.{line_of}
use Rattle.s2calc.specs.Replies.{Reply, text_of, tally_of}
use Rattle.s2calc.specs.Calls.{Call}
use Rattle.s2calc.specs.Notes.{WritesNotes, note_of, number_of}
use Rattle.s2calc.specs.Step.{StepBy, asks_for_file}
use Rattle.s2calc.specs.Working.Stands.{Point}
use Rattle.s2calc.specs.Working.Stands.{Answered, AnsweredInPart, AnsweredUnflushed}
use Rattle.s2calc.specs.Flushing.{Settled, Unsettled}
use Rattle.s2calc.specs.Output.{AppendsPart}

-- a flush, an answer and a flush
Appends-between : (a b c d : Option (List ℕ)) (bytes : List ℕ) → Keeps a b → Appends b c bytes → Keeps c d →
    Appends a d bytes
Appends-between a b c d bytes first w last =
    Appends-kept a c d bytes (Appends-trans a b c [] bytes (Appends-kept a a b [] (Appends-nil a) first) w) last

module _ (old new : Point) (before after : Progress) (said : Parsed) (is : said ≡ line_of before.kept) where
  -- the line was carried out and answered between two flushes, counted and noted
  pub Answered-between : (a b c d : Option (List ℕ)) (reply : Reply) (line : List ℕ) →
      StepBy said old.world reply new.world → Keeps a b → Appends b c (text_of reply) → Keeps c d
      → after.kept ≡ before.kept
      → ((replies : List Reply) → before.tally ≡ tally_of replies → after.tally ≡ tally_of (replies ++ reply ∷ []))
      → after.lines ≡ number_of (before.lines + 1) → line ≡ before.kept
      → WritesNotes old.noted (note_of after.lines line reply) new.noted → Answered old before new after a d
  Answered-between a b c d reply line step first w last kept_is tally_is lines_are line_is noted =
      record {
        reply = reply;
        step = record { by = subst (λ p. StepBy p old.world reply new.world) is step };
        written = Appends-between a b c d (text_of reply) first w last;
        kept_is = kept_is;
        tally_is = tally_is;
        lines_are = lines_are;
        noted = subst (λ number. WritesNotes old.noted (note_of number before.kept reply) new.noted) lines_are
            (subst (λ l. WritesNotes old.noted (note_of after.lines l reply) new.noted) line_is noted);
      }

  -- the line was carried out, and a part of its answer was written
  pub Answered-in_part : {Begun : Type 0} (a b c : Option (List ℕ)) (reply : Reply) →
      StepBy said old.world reply new.world → Keeps a b → AppendsPart b c (text_of reply) → new.noted ≡ old.noted
      → Begun → AnsweredInPart Begun old before new a c
  Answered-in_part a b c reply step first w quiet begun =
      record {
        reply = reply;
        step = record { by = subst (λ p. StepBy p old.world reply new.world) is step };
        part = record {
          part = w.part;
          rest = w.rest;
          bytes_are = w.bytes_are;
          lacking = w.lacking;
          written = Appends-between a b c c w.part first w.written (Keeps-refl c);
        };
        quiet = quiet;
        begun = begun;
      }

  -- the flush after it may have failed
  pub AnswersKept-flushed : {W : Type 0} (Unseen Begun Seen P Q : Type 0) (contents : W → Option (List ℕ))
      (calls : W → Option (List Call)) (is_sent : W → Type 0) (may_flush : Type 0) (has_file : Bool) (done writer : W)
      (a d : Option (List ℕ)) (result : Result (Unit {0}) RunFault) → asks_for_file (line_of before.kept) ≡ has_file
      → MatchResult result (λ _. Settled contents calls is_sent may_flush has_file done writer × P)
      (λ fault. Unsettled contents calls may_flush has_file done writer fault × Q) → Answered old before new after a d
      → (Settled contents calls is_sent may_flush has_file done writer × P → Seen) → (Q → Begun)
      → MatchResult result (λ _. Answered old before new after a d × Seen) (λ fault. (fault ≡ Output)
      × (AnsweredInPart Begun old before new a d
      ⊎ (may_flush × AnsweredUnflushed Unseen Begun old before new after a d)))
  AnswersKept-flushed Unseen Begun Seen P Q contents calls is_sent may_flush has_file done writer a d (Ok t) same s
      answered seen begun = (answered, seen s)
  AnswersKept-flushed Unseen Begun Seen P Q contents calls is_sent may_flush has_file done writer a d (Err fault) same s
      answered seen begun = (
        s.0.is_output,
        inr (s.0.may, record { has_file = same ∙ s.0.asked; flush = inr (answered, begun s.1) }),
      )
