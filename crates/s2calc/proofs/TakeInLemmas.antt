-- Lemmas on taking in the bytes of a script.
use Rattle.std.proofs.Common.{◌≡◌, ℕ, ◌+◌, ◌<◌, Bool, true, List, [], ◌∷◌, ◌++◌, Option, length, take}
use Rattle.std.proofs.Common.{refl, sym, ap, ◌∙◌, inl, inr}
use Rattle.std.proofs.Common.{subst, append_assoc, append-nil, arith, length-append}
use Rattle.std.proofs.lemmas.List.Concat.{flat_map-append}
use Rattle.std.specs.Io.KnownBytes.{Appends}
use Rattle.std.proofs.KnownBytes.{Appends-nil, Appends-trans, Appends-kept}
use Rattle.s2calc.specs.declared.limits.TheConstants.{KEPT}
use Rattle.s2calc.specs.declared.progress.Progress.{Progress}
use Rattle.s2script.specs.Line.{line_of}
use Rattle.s2script.specs.Lines.{IsUnbroken, BeginsWith, but_last}
use Rattle.s2calc.specs.Replies.{Reply, text_of, texts, tally_of}
use Rattle.s2calc.specs.Working.Stands.{IsCutOff}
use Rattle.s2calc.specs.Notes.{WritesNotes, note_of, number_of, notes_of}
use Rattle.s2calc.specs.Step.{Step, asks_for_file}
use Rattle.s2calc.specs.Run.{Steps}
use Rattle.s2calc.specs.Working.Stands.{Point, Explains}
use Rattle.s2calc.specs.Working.Stands.{Stands, Answered, AnsweredInPart, AnsweredUnflushed, StandsAfter, StopsInside}
use Rattle.s2calc.specs.Working.Stands.{StopsBeside, TakenIn}
use Rattle.s2calc.proofs.LineLemmas.{every-append, BeginsWith-more, BeginsWith-line, kept_more, but_last-append}
use Rattle.s2calc.proofs.NoteLemmas.{WritesNotes-none, WritesNotes-more, notes_from-push, notes_from-cut, note_of-kept}
use Rattle.s2calc.proofs.RunLemmas.{Steps-push, Steps-lengths}
use Rattle.s2calc.proofs.StepLemmas.{Step-kept, line_of-kept}

pub texts-push : (replies : List Reply) (reply : Reply) → texts (replies ++ reply ∷ []) ≡ texts replies ++ text_of reply
texts-push replies reply = flat_map-append text_of replies (reply ∷ [])
    ∙ ap (λ s. texts replies ++ s) (append-nil (text_of reply))

-- a run that stands somewhere has seen no byte since
abbrev pub StandsAfter-none : (start : Point) (script : List ℕ) (replies : List Reply) (now : Point)
    (progress : Progress) (output : Option (List ℕ)) → Stands start script replies now progress
    → StandsAfter start script replies [] now progress output output
StandsAfter-none start script replies now progress output s =
    record {
      more = [];
      stands = subst (λ all. Stands start all (replies ++ []) now progress) (sym (append-nil script))
          (subst (λ rs. Stands start script rs now progress) (sym (append-nil replies)) s);
      written = Appends-nil output;
    }

-- bytes without a newline are kept
pub Stands-more : (start : Point) (script : List ℕ) (replies : List Reply) (now : Point)
    (progress after : Progress) (bytes : List ℕ) → Stands start script replies now progress
    → IsUnbroken bytes → after.kept ≡ take KEPT (progress.kept ++ bytes) → after.tally ≡ progress.tally →
    after.lines ≡ progress.lines → Stands start (script ++ bytes) replies now after
Stands-more start script replies now progress after bytes s u e same_tally same_lines =
    record {
      done = s.done;
      rest = s.rest ++ bytes;
      begins = BeginsWith-more script s.done s.rest bytes s.begins;
      unbroken = every-append _ s.rest bytes s.unbroken u;
      run = s.run;
      kept_is = e ∙ ap (λ k. take KEPT (k ++ bytes)) s.kept_is ∙ kept_more s.rest bytes KEPT;
      tally_is = same_tally ∙ s.tally_is;
      lines_are = same_lines ∙ s.lines_are;
      noted = s.noted;
    }

-- the line asks for a command with a file if what is kept of it does
pub has_file-kept : (start : Point) (script : List ℕ) (replies : List Reply) (now : Point) (progress : Progress)
    (s : Stands start script replies now progress) → asks_for_file (line_of progress.kept) ≡ true →
    asks_for_file (line_of s.rest) ≡ true
has_file-kept start script replies now progress s h =
    ap asks_for_file (sym (ap line_of s.kept_is ∙ line_of-kept s.rest)) ∙ h

module _ (start : Point) (script : List ℕ) (replies : List Reply) (now : Point) (progress : Progress)
    (s : Stands start script replies now progress) (reply : Reply) (new : Point) where
  -- the line that is kept has the next number, and the note of the whole line
  note_here : note_of (number_of (progress.lines + 1)) progress.kept reply
      ≡ note_of (number_of (1 + length replies)) s.rest reply
  note_here =
      let lines_are = s.lines_are in
      let number : number_of (progress.lines + 1) ≡ number_of (1 + length replies) = omega arith in
      ap (λ n. note_of n progress.kept reply) number
      ∙ ap (λ k. note_of (number_of (1 + length replies)) k reply) s.kept_is
      ∙ note_of-kept (number_of (1 + length replies)) s.rest reply

  -- the note on the line that is kept was written
  pub Explains-line : WritesNotes now.noted (note_of (number_of (progress.lines + 1)) progress.kept reply) new.noted →
      Explains start new (s.done ++ s.rest ∷ []) (replies ++ reply ∷ [])
  Explains-line t =
      let counted = Steps-lengths start.world now.world s.done replies s.run in
      subst (λ bytes. WritesNotes start.noted bytes new.noted)
      (sym (notes_from-push 1 s.done replies s.rest reply counted
      ∙ ap (λ n. notes_of s.done replies ++ n) (sym note_here)))
      (WritesNotes-more start.noted now.noted new.noted (notes_of s.done replies) _ s.noted t)

  -- nothing was said of the line that is kept
  pub Explains-cut : new.noted ≡ now.noted → Explains start new (s.done ++ s.rest ∷ []) replies
  Explains-cut e =
      let counted = Steps-lengths start.world now.world s.done replies s.run in
      subst (λ n. WritesNotes start.noted (notes_of (s.done ++ s.rest ∷ []) replies) n) (sym e)
      (subst (λ bytes. WritesNotes start.noted bytes now.noted) (sym (notes_from-cut 1 s.done replies s.rest counted))
      s.noted)

  -- the line that is kept was carried out
  pub Steps-line : Step now.world progress.kept reply new.world →
      Steps start.world (s.done ++ s.rest ∷ []) (replies ++ reply ∷ []) new.world
  Steps-line t =
      let step : Step now.world s.rest reply new.world = Step-kept now.world new.world s.rest reply
      (subst (λ k. Step now.world k reply new.world) s.kept_is t) in
      Steps-push start.world now.world new.world s.done replies s.rest reply s.run step

-- a newline ends the line that is kept
pub Stands-line : (start : Point) (script : List ℕ) (replies : List Reply) (now new : Point)
    (progress after next : Progress) (output_old output_new : Option (List ℕ)) →
    Stands start script replies now progress → (a : Answered now progress new after output_old output_new)
    → next.kept ≡ [] → next.tally ≡ after.tally → next.lines ≡ after.lines →
    Stands start (script ++ 10 ∷ []) (replies ++ a.reply ∷ []) new next
Stands-line start script replies now new progress after next output_old output_new s a none same_tally same_lines =
    let lines_are = s.lines_are in
    let counted = a.lines_are in
    let long = length-append replies (a.reply ∷ []) in
    record {
      done = s.done ++ s.rest ∷ [];
      rest = [];
      begins = BeginsWith-line script s.done s.rest s.begins s.unbroken;
      unbroken = tt;
      run = Steps-line start script replies now progress s a.reply new a.step;
      kept_is = none;
      tally_is = same_tally ∙ a.tally_is replies s.tally_is;
      lines_are = omega arith;
      noted = Explains-line start script replies now progress s a.reply new a.noted;
    }

-- the steps of the loop, joined: bytes without a newline are kept, and then a newline comes
abbrev pub StandsAfter-line : (start : Point) (script : List ℕ) (replies : List Reply) (seen bytes : List ℕ)
    (now new : Point) (progress mid after next : Progress)
    (output_old output_mid output_new : Option (List ℕ))
    → StandsAfter start script replies seen now progress output_old output_mid → IsUnbroken bytes →
    mid.kept ≡ take KEPT (progress.kept ++ bytes) → mid.tally ≡ progress.tally → mid.lines ≡ progress.lines →
    Answered now mid new after output_mid output_new →
    next.kept ≡ [] → next.tally ≡ after.tally → next.lines ≡ after.lines
    → StandsAfter start script replies ((seen ++ bytes) ++ 10 ∷ []) new next output_old output_new
StandsAfter-line start script replies seen bytes now new progress mid after next output_old output_mid
    output_new s u m mid_tally mid_lines a none next_tally next_lines =
    let reply = a.reply in
    let held = Stands-more start (script ++ seen) (replies ++ s.more) now progress mid bytes s.stands u m mid_tally
    mid_lines in
    let stepped = Stands-line start ((script ++ seen) ++ bytes) (replies ++ s.more) now new mid after next
    output_mid output_new held a none next_tally next_lines in
    let moved : (((script ++ seen) ++ bytes) ++ 10 ∷ []) ≡ script ++ ((seen ++ bytes) ++ 10 ∷ []) = simp append_assoc in
    record {
      more = s.more ++ reply ∷ [];
      stands = subst (λ all. Stands start all (replies ++ (s.more ++ reply ∷ [])) new next) moved
          (subst (λ rs. Stands start (((script ++ seen) ++ bytes) ++ 10 ∷ []) rs new next)
          (append_assoc replies s.more (reply ∷ [])) stepped);
      written = subst (Appends output_old output_new) (sym (texts-push s.more reply))
          (Appends-trans output_old output_mid output_new (texts s.more) (text_of reply) s.written a.written);
    }

-- what is left of the bytes has no newline
abbrev pub StandsAfter-rest : (start : Point) (script : List ℕ) (replies : List Reply) (all seen bytes : List ℕ)
    (now : Point) (progress after : Progress) (output_old output_new : Option (List ℕ))
    → StandsAfter start script replies seen now progress output_old output_new → IsUnbroken bytes →
    after.kept ≡ take KEPT (progress.kept ++ bytes) → after.tally ≡ progress.tally → after.lines ≡ progress.lines →
    all ≡ seen ++ bytes
    → StandsAfter start script replies all now after output_old output_new
StandsAfter-rest start script replies all seen bytes now progress after output_old output_new s u e same_tally
    same_lines whole =
    record {
      more = s.more;
      stands = subst (λ b. Stands start b (replies ++ s.more) now after)
          (append_assoc script seen bytes ∙ ap (λ b. script ++ b) (sym whole))
          (Stands-more start (script ++ seen) (replies ++ s.more) now progress after bytes s.stands u e same_tally
          same_lines);
      written = s.written;
    }

-- a beginning of the last reply came out
pub IsCutOff-part : (replies : List Reply) (reply : Reply) (part rest : List ℕ) → text_of reply ≡ part ++ rest →
    0 < length rest → IsCutOff (texts replies ++ part) (replies ++ reply ∷ [])
IsCutOff-part replies reply part rest e h =
    record {
      lacking = h;
      rest = rest;
      beginning = texts-push replies reply ∙ ap (λ s. texts replies ++ s) e
          ∙ sym (append_assoc (texts replies) part rest);
      all_but_last = (part, ap (λ rs. texts rs ++ part) (sym (but_last-append replies reply)));
    }

-- all replies but the one that was added last
pub but_last-push : (replies more : List Reply) (reply : Reply) →
    but_last (replies ++ (more ++ reply ∷ [])) ≡ replies ++ more
but_last-push replies more reply = ap but_last (sym (append_assoc replies more (reply ∷ [])))
    ∙ but_last-append (replies ++ more) reply

-- the script goes on with the line that these bytes end
pub begins_line : (script seen bytes more_bytes all : List ℕ) (done : List (List ℕ)) (rest : List ℕ) →
    BeginsWith ((script ++ seen) ++ bytes) done rest → IsUnbroken rest → all ≡ (seen ++ bytes) ++ 10 ∷ more_bytes →
    BeginsWith (script ++ all) (done ++ rest ∷ []) more_bytes
begins_line script seen bytes more_bytes all done rest b u whole =
    let begun = BeginsWith-line ((script ++ seen) ++ bytes) done rest b u in
    let same : (((script ++ seen) ++ bytes) ++ 10 ∷ []) ++ more_bytes ≡ script
    ++ ((seen ++ bytes) ++ 10 ∷ more_bytes) = simp append_assoc in
    subst (λ s. BeginsWith s (done ++ rest ∷ []) more_bytes) (same ∙ ap (λ s. script ++ s) (sym whole))
    (BeginsWith-more _ (done ++ rest ∷ []) [] more_bytes begun)

-- the writer failed at the line that these bytes end
pub StopsInside-line : (Begun : Type 0) (Seen : List Reply → ℕ → ℕ → Type 0) (start : Point) (script : List ℕ)
    (replies : List Reply) (all seen bytes more_bytes : List ℕ) (now new : Point) (progress mid : Progress)
    (output_old output_mid output_new : Option (List ℕ))
    → (s : StandsAfter start script replies seen now progress output_old output_mid) → IsUnbroken bytes →
    mid.kept ≡ take KEPT (progress.kept ++ bytes) → mid.tally ≡ progress.tally → mid.lines ≡ progress.lines →
    AnsweredInPart Begun now mid new output_mid output_new → all ≡ (seen ++ bytes) ++ 10 ∷ more_bytes
    → ((reply : Reply) (held : Stands start ((script ++ seen) ++ bytes) (replies ++ s.more) now mid) → Begun →
    Seen (s.more ++ reply ∷ []) (length (held.done ++ held.rest ∷ [])) (length held.done))
    → StopsInside Seen start script replies all new output_old output_new
StopsInside-line Begun Seen start script replies all seen bytes more_bytes now new progress mid output_old output_mid
    output_new s u m mid_tally mid_lines p whole count =
    let reply = p.reply in
    let w = p.part in
    let before = replies ++ s.more in
    let held = Stands-more start (script ++ seen) before now progress mid bytes s.stands u m mid_tally mid_lines in
    record {
      done = held.done ++ held.rest ∷ [];
      rest = more_bytes;
      more = s.more ++ reply ∷ [];
      bytes = texts s.more ++ w.part;
      begins = begins_line script seen bytes more_bytes all held.done held.rest held.begins held.unbroken whole;
      run = subst (λ rs. Steps start.world (held.done ++ held.rest ∷ []) rs new.world)
          (append_assoc replies s.more (reply ∷ []))
          (Steps-line start ((script ++ seen) ++ bytes) before now mid held reply new p.step);
      written = Appends-trans output_old output_mid output_new (texts s.more) w.part s.written w.written;
      cut_off = IsCutOff-part s.more reply w.part w.rest w.bytes_are w.lacking;
      noted = subst (λ rs. Explains start new (held.done ++ held.rest ∷ []) rs)
          (sym (but_last-push replies s.more reply))
          (Explains-cut start ((script ++ seen) ++ bytes) before now mid held reply new p.quiet);
      ended = length held.done;
      one_more = let long = length-append held.done (held.rest ∷ []) in omega (arith, long);
      seen = count reply held p.begun;
    }

-- a flush failed before the line that these bytes end, or after it
pub StopsBeside-line : (Unseen Begun : Type 0) (Seen : List Reply → ℕ → ℕ → Type 0) (start : Point) (script : List ℕ)
    (replies : List Reply) (all seen bytes more_bytes : List ℕ) (now new : Point) (progress mid after : Progress)
    (output_old output_mid output_new : Option (List ℕ))
    → (s : StandsAfter start script replies seen now progress output_old output_mid) → IsUnbroken bytes →
    mid.kept ≡ take KEPT (progress.kept ++ bytes) → mid.tally ≡ progress.tally → mid.lines ≡ progress.lines →
    AnsweredUnflushed Unseen Begun now mid new after output_mid output_new → all ≡ (seen ++ bytes) ++ 10 ∷ more_bytes
    → ((held : Stands start ((script ++ seen) ++ bytes) (replies ++ s.more) now mid) → Unseen →
    Seen s.more (length held.done) (length held.done))
    → ((reply : Reply) (held : Stands start ((script ++ seen) ++ bytes) (replies ++ s.more) now mid) → Begun →
    Seen (s.more ++ reply ∷ []) (length (held.done ++ held.rest ∷ [])) (length held.done))
    → StopsBeside Seen start script replies all new output_old output_new
StopsBeside-line Unseen Begun Seen start script replies all seen bytes more_bytes now new progress mid after output_old
    output_mid output_new s u m mid_tally mid_lines f whole none count =
    let sofar = (script ++ seen) ++ bytes in
    let earlier = replies ++ s.more in
    let held = Stands-more start (script ++ seen) earlier now progress mid bytes s.stands u m mid_tally mid_lines in
    let begins = begins_line script seen bytes more_bytes all held.done held.rest held.begins held.unbroken whole in
    let has_file = has_file-kept start sofar earlier now mid held f.has_file in
    elim f.flush [
      | inl p ↦ record {
        before = held.done;
        line = held.rest;
        done = held.done;
        rest = more_bytes;
        more = s.more;
        begins = begins;
        has_file = has_file;
        done_are = inl refl;
        run = subst (λ to. Steps start.world held.done earlier to.world) (sym p.0) held.run;
        written = Appends-kept output_old output_mid output_new (texts s.more) s.written p.1;
        noted = subst (λ to. Explains start to held.done earlier) (sym p.0) held.noted;
        seen = none held p.2;
      }
      | inr b ↦ let a = b.0 in record {
        before = held.done;
        line = held.rest;
        done = held.done ++ held.rest ∷ [];
        rest = more_bytes;
        more = s.more ++ a.reply ∷ [];
        begins = begins;
        has_file = has_file;
        done_are = inr refl;
        run = subst (λ rs. Steps start.world (held.done ++ held.rest ∷ []) rs new.world)
            (append_assoc replies s.more (a.reply ∷ []))
            (Steps-line start sofar earlier now mid held a.reply new a.step);
        written = subst (Appends output_old output_new) (sym (texts-push s.more a.reply))
            (Appends-trans output_old output_mid output_new (texts s.more) (text_of a.reply) s.written a.written);
        noted = subst (λ rs. Explains start new (held.done ++ held.rest ∷ []) rs)
            (append_assoc replies s.more (a.reply ∷ []))
            (Explains-line start sofar earlier now mid held a.reply new a.noted);
        seen = count a.reply held b.1;
      }
    ]

-- a run that begins has seen no byte
pub Stands-start : (start : Point) (progress : Progress) → progress.kept ≡ [] → progress.tally ≡ tally_of [] →
    progress.lines ≡ 0 → Stands start [] [] start progress
Stands-start start progress e tally_is lines_are = record {
  done = [];
  rest = [];
  begins = record { bytes_are = refl; each = tt };
  unbroken = tt;
  run = refl;
  kept_is = e;
  tally_is = tally_is;
  lines_are = lines_are;
  noted = WritesNotes-none start.noted;
}

-- what is taken in, by what a call has answered
pub taken_to : (Seen : List ℕ → List Reply → Type 0) (stops halted b : Bool) (start : Point) (script : List ℕ)
    (replies : List Reply) (chunk : List ℕ) (now : Point) (progress : Progress)
    (output_old output_new : Option (List ℕ)) → halted ≡ b
    → TakenIn Seen stops halted start script replies chunk now progress output_old output_new
    → TakenIn Seen stops b start script replies chunk now progress output_old output_new
taken_to Seen stops halted b start script replies chunk now progress output_old output_new e taken = subst (λ h.
    TakenIn Seen stops h start script replies chunk now progress output_old output_new) e taken
