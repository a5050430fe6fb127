-- What a writer was given, by its calls.
use Rattle.std.proofs.Common.{◌≡◌, ◌<◌, ℕ, ◌⊎◌, false, List, [], ◌∷◌, ◌++◌, length, Some, Result, Ok, Err, OnOk, OnErr}
use Rattle.std.proofs.Common.{refl, sym, ap, ◌∙◌, subst, inl, inr, append-nil, append_assoc, length-append, arith}
use Rattle.std.specs.Fmt.{WritesInCalls}
use Rattle.std.specs.Io.KnownBytes.{Appends}
use Rattle.std.specs.List.{FoldsTo, concat}
use Rattle.s2calc.specs.Output.{AppendsPart}
use Rattle.s2calc.specs.Calls as calls
use Rattle.s2calc.specs.Calls.{Call}
use Rattle.s2calc.proofs.CallLemmas.{all_well_may, all_well_more, ends_may, ends_after}
use Rattle.s2process.specs.declared.errors.TextInMemory.{TextInMemory}
use Rattle.s2process.specs.declared.writer.ListedWriter.{ListedWriter}
use Rattle.s2process.specs.StreamCalls.{taken_in, called_in}
use Rattle.s2process.specs.Listed.{calls_of, taken, called}
use Rattle.s2process.specs.Ends.{NoneFailed, LastFailed}
use Rattle.s2process.specs.Errors.{Tells}
use Rattle.s2process.specs.Working.Errors.{TellsMore, Puts}
use Rattle.s2process.proofs.ProcessLemmas.{gained_known}

module _ {E : Type 0} (old new : ListedWriter E) where
  -- all of the text was taken, or a beginning of it
  pub text_given : {A X : Type 0} (text : List ℕ) (result : Result A X) →
      OnOk result (Appends (Some (taken old)) (Some (taken new)) text)
      → OnErr result (AppendsPart (Some (taken old)) (Some (taken new)) text)
      → OnOk result (calls.NoneFailed ⊥ (Some (called old)) (Some (called new)))
      → OnErr result (calls.LastFailed ⊥ (Some (called old)) (Some (called new))) → TellsMore text old new
  text_given text (Ok answer) all part well failed = record {
    bytes = text;
    calls = well.more;
    taken_are = all;
    called_are = gained_known (called old) (called new) well.more well.gained;
    tells = inl (refl, all_well_may (Unit {0}) well.more well.holds);
  }
  text_given text (Err fault) all part well failed = record {
    bytes = part.part;
    calls = failed.more;
    taken_are = part.written;
    called_are = gained_known (called old) (called new) failed.more failed.gained;
    tells = inr (
      part.rest,
      part.bytes_are,
      part.lacking,
      ends_may (Unit {0}) failed.more failed.holds,
    );
  }

  -- what a writer is given that took nothing, and of which no call ended, is all that it has
  pub given_first : (text : List ℕ) → taken old ≡ [] → called old ≡ [] → TellsMore text old new →
      Tells text (taken new) (called new)
  given_first text none_taken none_called more =
      subst (λ (bytes : List ℕ). Tells text bytes (called new))
      (sym (more.taken_are ∙ ap (λ (xs : List ℕ). xs ++ more.bytes) none_taken))
      (subst (λ (ended : List Call). Tells text more.bytes ended)
      (sym (more.called_are ∙ ap (λ (xs : List Call). xs ++ more.calls) none_called)) more.tells)

  -- the same of a writer that was not called
  pub given_alone : (text : List ℕ) → calls_of old ≡ [] → TellsMore text old new → Tells text (taken new) (called new)
  given_alone text none more = given_first text (ap taken_in none) (ap called_in none) more

-- no text
pub nothing_given : {E : Type 0} (writer : ListedWriter E) → TellsMore [] writer writer
nothing_given writer = record {
  bytes = [];
  calls = [];
  taken_are = sym (append-nil (taken writer));
  called_are = sym (append-nil (called writer));
  tells = inl (refl, tt);
}

-- the first text was taken, and then the other was given
given_then : (first text bytes : List ℕ) (before after : List Call) → NoneFailed before → Tells text bytes after →
    Tells (first ++ text) (first ++ bytes) (before ++ after)
given_then first text bytes before after well (inl all) =
    inl (ap (λ xs. first ++ xs) all.0, all_well_more (Unit {0}) before after well all.1)
given_then first text bytes before after well (inr part) = inr (
  part.0,
  ap (λ xs. first ++ xs) part.1 ∙ sym (append_assoc first bytes part.0),
  part.2,
  ends_after (Unit {0}) before after well part.3,
)

-- of the first text some bytes were not taken, so the other was not given
cut_off : (first text bytes : List ℕ) (ended : List Call) →
    ((rest : List ℕ) × (first ≡ bytes ++ rest) × (0 < length rest) × LastFailed ended)
    → Tells (first ++ text) bytes ended
cut_off first text bytes ended part = inr (
  part.0 ++ text,
  ap (λ xs. xs ++ text) part.1 ∙ append_assoc bytes part.0 text,
  (let long = length-append part.0 text in let some = part.2 in omega (arith, long, some)),
  part.3,
)

module _ {E : Type 0} (old new : ListedWriter E) (first text : List ℕ) where
  -- the first text was taken whole, and then the other was given
  pub given_more : (mid : ListedWriter E) → taken mid ≡ taken old ++ first
      → calls.NoneFailed ⊥ (Some (called old)) (Some (called mid)) → TellsMore text mid new
      → TellsMore (first ++ text) old new
  given_more mid all well more = record {
    bytes = first ++ more.bytes;
    calls = well.more ++ more.calls;
    taken_are = more.taken_are ∙ ap (λ xs. xs ++ more.bytes) all ∙ append_assoc (taken old) first more.bytes;
    called_are = more.called_are
        ∙ ap (λ (xs : List Call). xs ++ more.calls)
        (gained_known (called old) (called mid) well.more well.gained)
        ∙ append_assoc (called old) well.more more.calls;
    tells = given_then first text more.bytes well.more more.calls (all_well_may (Unit {0}) well.more well.holds)
        more.tells;
  }

  -- the first text was not taken whole, so the other was not given
  pub given_part : AppendsPart (Some (taken old)) (Some (taken new)) first
      → calls.LastFailed ⊥ (Some (called old)) (Some (called new)) → TellsMore (first ++ text) old new
  given_part part failed = record {
    bytes = part.part;
    calls = failed.more;
    taken_are = part.written;
    called_are = gained_known (called old) (called new) failed.more failed.gained;
    tells = cut_off first text part.part failed.more (
      part.rest,
      part.bytes_are,
      part.lacking,
      ends_may (Unit {0}) failed.more failed.holds,
    );
  }

-- it was said, or nothing was
pub said_or_not : {E : Type 0} (said : List ℕ) (old new : ListedWriter E) → TellsMore said old new ⊎ (new ≡ old) →
    (text : List ℕ) × ((text ≡ said) ⊎ (text ≡ [])) × TellsMore text old new
said_or_not said old new (inl more) = (said, inl refl, more)
said_or_not {E} said old new (inr same) = (
  [],
  inr refl,
  subst (λ (w : ListedWriter E). TellsMore [] old w) (sym same) (nothing_given old),
)

puts_parts : (a : TextInMemory) (parts : List (List ℕ)) (b : TextInMemory) → FoldsTo Puts a parts b → b.lost ≡ false →
    (a.lost ≡ false) × (b.bytes.items ≡ a.bytes.items ++ concat parts)
puts_parts a [] b is kept = subst (λ (x : TextInMemory). (a.lost ≡ false) × (x.bytes.items ≡ a.bytes.items ++ [])) is
    (ap (λ (x : TextInMemory). x.lost) is ∙ kept, sym (append-nil a.bytes.items))
puts_parts a (x ∷ xs) b p kept =
    let after = puts_parts p.0 xs b p.2 kept in
    let before = p.1 after.0 in (
      before.0,
      after.1 ∙ ap (λ bytes. bytes ++ concat xs) before.1 ∙ append_assoc a.bytes.items x (concat xs),
    )

-- a text that was put where nothing was, and of which nothing is lost
pub put_whole : (a b : TextInMemory) (text : List ℕ) → a.bytes.items ≡ [] → WritesInCalls Puts a text b →
    b.lost ≡ false → b.bytes.items ≡ text
put_whole a b text none p kept =
    (puts_parts a p.parts b p.calls kept).1 ∙ ap (λ bytes. bytes ++ concat p.parts) none ∙ p.whole
