-- The bytes of a state, and what comes of them.
use Rattle.std.proofs.Common.{◌≡◌, ℕ, inl, inr, true, List, Option, Some, refl}
use Rattle.std.proofs.Common.{Result, Ok, Err, sym, ap, ◌∙◌, subst}
use Rattle.std.proofs.lemmas.Option.{same_Some}
use Rattle.std.specs.Prelude.{IfOk, OnOk, MatchResult}
use Rattle.s2shelf.specs.OpenedFile.{given, has_ended}
use Rattle.s2shelf.specs.Shelf.{Files, Allows, Finds, Opens, Closes, Fails}
use Rattle.s2shelf.specs.declared.opened_file.OpenedFile.{OpenedFile}
use Rattle.s2shelf.specs.declared.shelf.ShelfFault.TheVariants.{Device}
use Rattle.s2shelf.proofs.Opened.{ReadsOf, found_whole, found_some}
use Rattle.s2edit.specs.declared.content.Session.{Session as FileSession}
use Rattle.s2edit.specs.Content.{IsContent, content_of}
use Rattle.s2session.specs.Session.{Spells, Stored}
use Rattle.s2session.specs.declared.fault.ReadFault.{ReadFault}
use Rattle.s2session.specs.declared.fault.ReadFault.TheVariants.{Form, Device as NotRead, Memory as NotHeld}
use Rattle.s2session.specs.Reading.{RefusesToRead}
use Rattle.s2edit.specs.History.{History}
use Rattle.s2edit.specs.Session.{Restored}
use Rattle.s2edit.specs.declared.session.RestoreFault.TheVariants.{Fit, Memory as NoRoom}
use Rattle.s2session.proofs.Spelling.{one_history, fits_editor, one_fault}
use Rattle.s2calc.specs.declared.refusal.Refusal.{Refusal}
use Rattle.s2calc.specs.declared.refusal.Refusal.TheVariants.{File as FileFailed, Memory, Session}
use Rattle.s2calc.specs.Working.Sessions.{ReadAs}
use Rattle.s2calc.specs.Sessions.{refusal_of, RefusesBytes, FetchesNoState}
use Rattle.s2calc.proofs.FetchLemmas.{OneContent, turned, AskedFor, found_bytes, IsSettled, some_allowed, bytes_or_none}
use Rattle.s2calc.proofs.FetchLemmas.{same_fetch_refusal, fetch_asks}

-- ---- a session that is read from an opened file, which is closed afterwards

-- the session that was read is one that a file may hold
pub kept_content : (read : Result FileSession ReadFault) (result : Result FileSession Refusal) → ReadAs read result →
    IfOk read (λ session. IsContent (content_of session)) → IfOk result (λ session. IsContent (content_of session))
kept_content (Ok session) result is content =
    subst (λ r. IfOk r (λ session. IsContent (content_of session))) (sym is) content
kept_content (Err Form) result is content =
    subst (λ r. IfOk r (λ session. IsContent (content_of session))) (sym is) tt
kept_content (Err NotRead) result is content =
    subst (λ r. IfOk r (λ session. IsContent (content_of session))) (sym is) tt
kept_content (Err NotHeld) result is content =
    subst (λ r. IfOk r (λ session. IsContent (content_of session))) (sym is) tt

-- what was read of a file that was opened and closed
abbrev HasRead : Files → Files → List ℕ → Result FileSession Refusal → Type 0
HasRead old new name result = MatchResult result
    (λ session. (bytes : List ℕ) × Finds old name (Some bytes) new × Spells bytes (content_of session))
    (λ refusal. (state : History (List ℕ)) → FetchesNoState name old state refusal new)

module _ {F : Type 0} (remaining : F → Option (List ℕ)) (old opened new : Files) (name : List ℕ)
    (start end : OpenedFile F) (opens : Opens remaining old name (Some start) opened) (closes : Closes opened end new)
  where
    -- no state is taken over, since whatever bytes the file has are refused
    refused : (P : List ℕ → Type 0) (state : History (List ℕ)) (refusal : Refusal) →
        ReadsOf remaining start end P
        → ((bytes : List ℕ) → P bytes → RefusesBytes bytes state refusal) → FetchesNoState name old state refusal new
    refused P state refusal reads refuses =
        let (bytes, found, all) = found_some remaining old opened new name start end opens closes P reads in
        inr (bytes, found, λ b allows. refuses b (all b allows))

    pub read_and_closed : (read : Result FileSession ReadFault) (result : Result FileSession Refusal) →
        ReadAs read result → OnOk read (has_ended end ≡ true)
        → ReadsOf remaining start end
        (λ bytes. MatchResult read (λ session. Spells bytes (content_of session)) (λ fault. RefusesToRead fault bytes))
        → HasRead old new name result
    read_and_closed (Ok session) result is ended reads =
        let (found, spells) = found_whole remaining old opened new name start end opens closes
        (λ bytes. Spells bytes (content_of session)) ended reads in
        subst (HasRead old new name) (sym is) (given end, found, spells)
    read_and_closed (Err Form) result is ended reads =
        subst (HasRead old new name) (sym is) (λ state. refused (λ bytes. RefusesToRead Form bytes) state Session reads
        (λ bytes none. (Fit, refl, λ h stored. none stored.content stored.spells)))
    read_and_closed (Err NotRead) result is ended reads =
        subst (HasRead old new name) (sym is)
        (λ state. refused (λ bytes. Unit {0}) state Memory reads (λ bytes _. (NoRoom, refl, tt)))
    read_and_closed (Err NotHeld) result is ended reads =
        subst (HasRead old new name) (sym is)
        (λ state. refused (λ bytes. Unit {0}) state Memory reads (λ bytes _. (NoRoom, refl, tt)))

-- no session was read, since a read of the file failed
pub none_closed : (old new : Files) (name : List ℕ) (state : History (List ℕ)) → Fails old name new Device →
    FetchesNoState name old state FileFailed new
none_closed old new name state fails = inl (inr (inl (refl, inl fails)))

-- bytes that were found are refused
found_no_state : (a c : Files) (name bytes : List ℕ) (old : History (List ℕ)) (refusal : Refusal) →
    Finds a name (Some bytes) c → RefusesBytes bytes old refusal → FetchesNoState name a old refusal c
found_no_state a c name bytes old refusal finds refuses = inr (
  bytes,
  found_bytes a c name bytes finds,
  λ all allows. subst (λ b. RefusesBytes b old refusal) (sym (same_Some all bytes allows)) refuses,
)

-- the session of bytes that were found is taken over, or the bytes are refused
pub found_and_taken : {T : Type 0} (r : Result T Refusal) (a c : Files) (name bytes : List ℕ)
    (old new : History (List ℕ)) → Finds a name (Some bytes) c
    → MatchResult r (λ _. Restored (Stored bytes) old new) (λ refusal. RefusesBytes bytes old refusal)
    → MatchResult r (λ _. (xs : List ℕ) × Finds a name (Some xs) c × Restored (Stored xs) old new)
    (λ refusal. FetchesNoState name a old refusal c)
found_and_taken (Ok done) a c name bytes old new found taken = (bytes, found, taken)
found_and_taken (Err refusal) a c name bytes old new found refuses =
    found_no_state a c name bytes old refusal found refuses

-- ---- bytes stand for one history

pub one_taken : (bytes : List ℕ) (old c d : History (List ℕ)) → Restored (Stored bytes) old c →
    Restored (Stored bytes) old d → c ≡ d
one_taken bytes old c d f g = one_history bytes c d f.tells g.tells (f.limit ∙ sym g.limit) (f.depth ∙ sym g.depth)

-- bytes that are taken over are refused only if there is no memory
pub taken_or_refused : (bytes : List ℕ) (old new : History (List ℕ)) (refusal : Refusal) →
    Restored (Stored bytes) old new → RefusesBytes bytes old refusal → IsSettled refusal → ⊥
taken_or_refused bytes old new refusal f (fault, is, r) p =
    p.0 (is ∙ ap refusal_of (fits_editor bytes new old fault f.tells f.kept (sym f.limit) (sym f.depth) r))

pub one_refusal : (bytes : List ℕ) (old : History (List ℕ)) (x y : Refusal) → RefusesBytes bytes old x →
    RefusesBytes bytes old y → IsSettled x → IsSettled y → x ≡ y
one_refusal bytes old x y (a, is, f) (b, are, g) p q =
    is ∙ ap refusal_of (one_fault bytes old a b f g (λ e. p.0 (is ∙ ap refusal_of e))
    (λ e. q.0 (are ∙ ap refusal_of e))) ∙ sym are

-- ---- files

-- a file that one shelf has, and whose bytes are taken over, is so over the other
pub fetched_or_not : (a b c d : Files) (name bytes : List ℕ) (old new : History (List ℕ)) (y : Refusal) →
    OneContent a b c d name → Finds a name (Some bytes) c → Restored (Stored bytes) old new
    → FetchesNoState name b old y d → IsSettled y → ⊥
fetched_or_not a b c d name bytes old new y s f t (inl g) q =
    bytes_or_none a b c d name bytes y s (found_bytes a c name bytes f) g q
fetched_or_not a b c d name bytes old new y s f t (inr g) q =
    let (content, is, allows) = s (Some bytes) (Some g.0) (found_bytes a c name bytes f) g.1 in
    taken_or_refused bytes old new y t (g.2 bytes (subst (λ h. Allows g.1.finding h) is allows)) q

pub one_failure : (a b c d : Files) (name : List ℕ) (old : History (List ℕ)) (x y : Refusal) → OneContent a b c d name →
    FetchesNoState name a old x c → FetchesNoState name b old y d
    → IsSettled x → IsSettled y → x ≡ y
one_failure a b c d name old x y s (inl f) (inl g) p q = same_fetch_refusal a b c d name x y f g p q
one_failure a b c d name old x y s (inl f) (inr g) p q =
    absurd (bytes_or_none b a d c name g.0 x (turned a b c d name s) g.1 f p)
one_failure a b c d name old x y s (inr f) (inl g) p q = absurd (bytes_or_none a b c d name f.0 y s f.1 g q)
one_failure a b c d name old x y s (inr f) (inr g) p q =
    let (content, allows, others) = s (Some f.0) (Some g.0) f.1 g.1 in
    let (all, is) = some_allowed f.1.finding f.0 content f.1.allows allows in
    one_refusal all old x y (f.2 all (subst (λ h. Allows f.1.finding h) is allows))
    (g.2 all (subst (λ h. Allows g.1.finding h) is others)) p q

pub failure_asks : (a c : Files) (name : List ℕ) (old : History (List ℕ)) (x : Refusal) →
    FetchesNoState name a old x c → IsSettled x → AskedFor a name c
failure_asks a c name old x (inl l) p = fetch_asks a c name x l p
failure_asks a c name old x (inr l) p = (Some l.0, l.1)
