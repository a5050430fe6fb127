-- What only private contracts need, beside Noting.antt, which has what public contracts need.
use Rattle.std.specs.Prelude.{◌≡◌, ℕ, List, ◌++◌, Option, Bool, refl}
use Rattle.std.specs.Coded.{Coded, code_by, coded×, coded_bool}
use Rattle.s2calc.specs.declared.notes.NoteText.{NoteText}
use Rattle.s2calc.specs.Calls.{Call}
use Rattle.s2calc.specs.Notes.{Noted, WritesNotes}
use Rattle.s2calc.specs.Noting.{Noting}

module _ {W : Type 0} where
  -- the code of a writer of notes, made from the code of the writer below
  abbrev pub noting_code : Coded W → Coded (Noting W)
  noting_code c = code_by (W × Bool) (coded× c coded_bool) (λ n. (n.writer, n.stopped))
      (λ p. record { writer = p.0; stopped = p.1 }) (λ _. refl)

module _ {W : Type 0} (contents : W → Option (List ℕ)) (calls : W → Option (List Call)) where
  -- what is known of a writer of notes, by the writer below and whether it has stopped
  abbrev pub noted_below : W → Bool → Noted
  noted_below writer stopped = record { contents = contents writer; calls = calls writer; stopped = stopped }

  -- a part came to the bytes that waited: the first of all these were passed to the writer, and the others wait
  abbrev pub Puts : NoteText W → List ℕ → NoteText W → Type 0
  Puts old part new = (out : List ℕ) × (old.waiting.items ++ part ≡ out ++ new.waiting.items)
      × WritesNotes (noted_below old.writer old.stopped) out (noted_below new.writer new.stopped)
