-- Lemmas on the notes of a run.
use Rattle.std.proofs.Common.{◌≡◌, ℕ, ◌+◌, None, Option, Bool, true, false, List, [], ◌∷◌, ◌++◌}
use Rattle.std.proofs.Common.{length, take, refl, sym, ap, ◌∙◌}
use Rattle.std.proofs.Common.{subst, append_assoc, append-nil, add-zero, arith, length-append}
use Rattle.std.specs.Io.KnownBytes.{Appends}
use Rattle.std.specs.Fmt.{WritesInCalls}
use Rattle.std.specs.List.{FoldsTo, concat}
use Rattle.std.proofs.KnownBytes.{Appends-nil, Appends-trans}
use Rattle.s2calc.specs.declared.limits.TheConstants.{KEPT}
use Rattle.s2calc.specs.declared.refusal.Refusal.{Refusal}
use Rattle.s2calc.specs.declared.refusal.Refusal.TheVariants.{Words, Missing, File, Format, Session, TooDeep, TooMany}
use Rattle.s2calc.specs.declared.refusal.Refusal.TheVariants.{Nothing, Memory}
use Rattle.s2calc.specs.Replies.{Reply, Silent, Says, Refuses}
use Rattle.s2calc.specs.declared.execute.Outcome.{Outcome}
use Rattle.s2calc.specs.declared.execute.Outcome.TheVariants.{Refused}
use Rattle.s2calc.specs.declared.notes.NoteText.{NoteText}
use Rattle.s2calc.specs.Calls.{Call, NoneFailed, LastFailed}
use Rattle.s2calc.specs.Output.{AppendsPart}
use Rattle.s2calc.specs.Run.{no_notes}
use Rattle.s2calc.specs.Notes.{Noted, WritesNotes, note_of, notes_from, number_of, reason_of, misfit_reason}
use Rattle.s2calc.specs.Working.Execute.{IsOutcome}
use Rattle.s2calc.specs.Working.Noting.{noted_below, Puts}
use Rattle.s2calc.proofs.CallLemmas.{none_failed_none, none_failed_more, last_failed_after}
use Rattle.s2calc.proofs.StepLemmas.{misfit_of-kept}

-- nothing is told
pub WritesNotes-none : (a : Noted) → WritesNotes a [] a
WritesNotes-none a = record {
  part = [];
  rest = [];
  notes_are = refl;
  written = Appends-nil a.contents;
  whole = λ f. (refl, none_failed_none ⊥ a.calls);
  lacking = λ f t. absurd cc;
  stays = λ t. (refl, refl, t);
}

module _ (a b c : Noted) (front back : List ℕ) (p : WritesNotes a front b) (q : WritesNotes b back c) where
  -- the first notes were written whole
  told_whole : b.stopped ≡ false → WritesNotes a (front ++ back) c
  told_whole e =
      let part_is : p.part ≡ front =
      sym (append-nil p.part) ∙ ap (λ s. p.part ++ s) (sym (p.whole e).0) ∙ sym p.notes_are in
      let well = (p.whole e).1 in
      record {
        part = front ++ q.part;
        rest = q.rest;
        notes_are = ap (λ s. front ++ s) q.notes_are ∙ sym (append_assoc front q.part q.rest);
        written = Appends-trans a.contents b.contents c.contents front q.part
            (subst (Appends a.contents b.contents) part_is p.written) q.written;
        whole = λ f. ((q.whole f).0, none_failed_more ⊥ a.calls b.calls c.calls well (q.whole f).1);
        lacking = λ f t. ((q.lacking e t).0, last_failed_after ⊥ a.calls b.calls c.calls well (q.lacking e t).1);
        stays = λ t. let bad : b.stopped ≡ true = (p.stays t).2 in absurd cc;
      }

  -- the writer stopped inside the first notes
  told_in_part : b.stopped ≡ true → WritesNotes a (front ++ back) c
  told_in_part e =
      let quiet : q.part ≡ [] = (q.stays e).0 in
      let same_calls : c.calls ≡ b.calls = (q.stays e).1 in
      let stopped : c.stopped ≡ true = (q.stays e).2 in
      let same : p.part ++ q.part ≡ p.part = ap (λ s. p.part ++ s) quiet ∙ append-nil p.part in
      record {
        part = p.part;
        rest = p.rest ++ back;
        notes_are = ap (λ s. s ++ back) p.notes_are ∙ append_assoc p.part p.rest back;
        written = subst (Appends a.contents c.contents) same
            (Appends-trans a.contents b.contents c.contents p.part q.part p.written q.written);
        whole = λ f. absurd cc;
        lacking = λ f t. let some = (p.lacking f e).0 in (
          omega (arith, length-append p.rest back, some),
          subst (LastFailed ⊥ a.calls) (sym same_calls) (p.lacking f e).1,
        );
        stays = λ t. ((p.stays t).0, same_calls ∙ (p.stays t).1, stopped);
      }

  told_by : (s : Bool) → b.stopped ≡ s → WritesNotes a (front ++ back) c
  told_by true e = told_in_part e
  told_by false e = told_whole e

  -- notes, and then others
  pub WritesNotes-more : WritesNotes a (front ++ back) c
  WritesNotes-more = told_by b.stopped refl

-- one more line with its reply
pub notes_from-push : (n : ℕ) (ls : List (List ℕ)) (rs : List Reply) (line : List ℕ) (reply : Reply) →
    length ls ≡ length rs
    → notes_from n (ls ++ line ∷ []) (rs ++ reply ∷ [])
    ≡ notes_from n ls rs ++ note_of (number_of (n + length rs)) line reply
notes_from-push n [] [] line reply e = append-nil (note_of (number_of n) line reply)
    ∙ ap (λ k. note_of (number_of k) line reply) (sym (add-zero n))
notes_from-push n [] (r ∷ rs) line reply e = absurd (omega arith)
notes_from-push n (l ∷ ls) [] line reply e = absurd (omega arith)
notes_from-push n (l ∷ ls) (r ∷ rs) line reply e =
    let here = note_of (number_of n) l r in
    let count : (n + 1) + length rs ≡ n + length (r ∷ rs) = omega arith in
    ap (λ s. here ++ s) (notes_from-push (n + 1) ls rs line reply (omega arith))
    ∙ sym (append_assoc here (notes_from (n + 1) ls rs) (note_of (number_of ((n + 1) + length rs)) line reply))
    ∙ ap (λ k. (here ++ notes_from (n + 1) ls rs) ++ note_of (number_of k) line reply) count

-- one more line that has no reply yet
pub notes_from-cut : (n : ℕ) (ls : List (List ℕ)) (rs : List Reply) (line : List ℕ) → length ls ≡ length rs →
    notes_from n (ls ++ line ∷ []) rs ≡ notes_from n ls rs
notes_from-cut n [] [] line e = refl
notes_from-cut n [] (r ∷ rs) line e = absurd (omega arith)
notes_from-cut n (l ∷ ls) [] line e = absurd (omega arith)
notes_from-cut n (l ∷ ls) (r ∷ rs) line e =
    ap (λ s. note_of (number_of n) l r ++ s) (notes_from-cut (n + 1) ls rs line (omega arith))

reason_of-kept : (line : List ℕ) (refusal : Refusal) → reason_of (take KEPT line) refusal ≡ reason_of line refusal
reason_of-kept line (Words refusal) = ap misfit_reason (misfit_of-kept line)
reason_of-kept line Missing = refl
reason_of-kept line File = refl
reason_of-kept line Format = refl
reason_of-kept line Session = refl
reason_of-kept line TooDeep = refl
reason_of-kept line TooMany = refl
reason_of-kept line Nothing = refl
reason_of-kept line Memory = refl

-- the first `KEPT` bytes of a line have the note of the line
pub note_of-kept : (n : ℕ) (line : List ℕ) (reply : Reply) → note_of n (take KEPT line) reply ≡ note_of n line reply
note_of-kept n line Silent = refl
note_of-kept n line (Says text) = refl
note_of-kept n line (Refuses refusal) = rw (reason_of-kept line refusal) refl

-- nothing is known of what was told
pub WritesNotes-unknown : (notes : List ℕ) → WritesNotes no_notes notes no_notes
WritesNotes-unknown notes = record {
  part = notes;
  rest = [];
  notes_are = sym (append-nil notes);
  written = tt;
  whole = λ f. (refl, none_failed_none ⊥ None);
  lacking = λ f t. absurd cc;
  stays = λ t. absurd cc;
}

-- a line that isn't refused has no note
pub WritesNotes-answered : (a : Noted) (n : ℕ) (line : List ℕ) (outcome : Outcome) (reply : Reply) →
    ((refusal : Refusal) → outcome ≡ Refused refusal → ⊥) → IsOutcome outcome reply
    → WritesNotes a (note_of n line reply) a
WritesNotes-answered a n line outcome Silent other is = WritesNotes-none a
WritesNotes-answered a n line outcome (Says text) other is = WritesNotes-none a
WritesNotes-answered a n line outcome (Refuses refusal) other is = absurd (other refusal is)

-- a writer that has stopped writes nothing
pub WritesNotes-stopped : (a : Noted) (notes : List ℕ) → a.stopped ≡ true → WritesNotes a notes a
WritesNotes-stopped a notes e = record {
  part = [];
  rest = notes;
  notes_are = refl;
  written = Appends-nil a.contents;
  whole = λ f. absurd cc;
  lacking = λ f t. absurd cc;
  stays = λ t. (refl, refl, t);
}

module _ (old new : Noted) (notes : List ℕ) (fresh : old.stopped ≡ false) where
  -- notes were written whole
  pub WritesNotes-wrote : new.stopped ≡ false → Appends old.contents new.contents notes
      → NoneFailed ⊥ old.calls new.calls → WritesNotes old notes new
  WritesNotes-wrote f written well = record {
    part = notes;
    rest = [];
    notes_are = sym (append-nil notes);
    written = written;
    whole = λ h. (refl, well);
    lacking = λ h t. absurd cc;
    stays = λ t. absurd cc;
  }

  -- a call of the writer below failed
  pub WritesNotes-failed : new.stopped ≡ true → AppendsPart old.contents new.contents notes
      → LastFailed ⊥ old.calls new.calls → WritesNotes old notes new
  WritesNotes-failed t part failed = record {
    part = part.part;
    rest = part.rest;
    notes_are = part.bytes_are;
    written = part.written;
    whole = λ h. absurd cc;
    lacking = λ h s. (part.lacking, failed);
    stays = λ s. absurd cc;
  }

module _ {W : Type 0} (contents : W → Option (List ℕ)) (calls : W → Option (List Call)) where
  -- the first of some bytes that wait are passed to the writer
  Puts-more : (a b c : NoteText W) (x y : List ℕ) → Puts contents calls a x b → Puts contents calls b y c →
      Puts contents calls a (x ++ y) c
  Puts-more a b c x y p q = (
    p.0 ++ q.0,
    sym (append_assoc a.waiting.items x y) ∙ ap (λ s. s ++ y) p.1 ∙ append_assoc p.0 b.waiting.items y
        ∙ ap (λ s. p.0 ++ s) q.1 ∙ sym (append_assoc p.0 q.0 c.waiting.items),
    WritesNotes-more _ _ _ p.0 q.0 p.2 q.2,
  )

  puts_parts : (a : NoteText W) (parts : List (List ℕ)) (b : NoteText W) → FoldsTo (Puts contents calls) a parts b →
      Puts contents calls a (concat parts) b
  puts_parts a [] b is =
      subst (Puts contents calls a []) is ([], append-nil a.waiting.items, WritesNotes-none _)
  puts_parts a (x ∷ xs) b p = Puts-more a p.0 b x (concat xs) p.1 (puts_parts p.0 xs b p.2)

  -- a text was put where nothing waited, and then what waited was passed on
  pub puts_text : (a b : NoteText W) (text : List ℕ) (new : Noted) → a.waiting.items ≡ [] →
      WritesInCalls (Puts contents calls) a text b
      → WritesNotes (noted_below contents calls b.writer b.stopped) b.waiting.items new
      → WritesNotes (noted_below contents calls a.writer a.stopped) text new
  puts_text a b text new none p passed =
      let put = puts_parts a p.parts b p.calls in
      let all : put.0 ++ b.waiting.items ≡ text =
      sym put.1 ∙ ap (λ s. s ++ concat p.parts) none ∙ p.whole in
      subst (λ bytes. WritesNotes (noted_below contents calls a.writer a.stopped) bytes new) all
      (WritesNotes-more _ _ new put.0 b.waiting.items put.2 passed)
