-- Whole sessions while they are taken.
use Rattle.std.proofs.Common.{◌≡◌, ◌≢◌, ℕ, ◌+◌, ◌<◌, ◌≤◌, Bool, true, false, inl, inr, List, [], ◌∷◌, ◌++◌}
use Rattle.std.proofs.Common.{length, slice_index, Option, Some, None, Result, Ok, Err, refl, sym, ap, ◌∙◌, subst}
use Rattle.std.proofs.Common.{arith, append_assoc}
use Rattle.std.proofs.lemmas.Bool.{true≢false}
use Rattle.std.proofs.lemmas.List.{append-nil, length-append, get_or_append_left}
use Rattle.std.proofs.lemmas.Option.{none-some, same_Some}
use Rattle.std.specs.Prelude.{MatchResult}
use Rattle.s2shelf.specs.OpenedFile.{Claim, MayCome, Left, has_ended, below}
use Rattle.s2shelf.specs.declared.opened_file.OpenedFile.{OpenedFile}
use Rattle.s2shelf.proofs.Opened.{some_content}
use Rattle.s2edit.specs.Diff.{Diff}
use Rattle.s2edit.specs.Content.{Content, content_of, IsContent}
use Rattle.s2session.specs.Session.{moves_text, parts_text, IsSessionFile, IsUnionFile, Spells}
use Rattle.s2session.specs.Working.SessionParts.{AreMoves, AreRegisters, registers_text, IsByte, byte_text}
use Rattle.s2edit.specs.declared.TheConstants.{SESSION_CHANGES}
use Rattle.s2file.specs.declared.union_file.TheConstants.{MOST_SIZE}
use Rattle.s2edit.specs.declared.content.Session.{Session}
use Rattle.s2file.proofs.Beginnings.{longest}
use Rattle.s2session.proofs.Fronts.{after_byte}
use Rattle.s2session.proofs.Spelled.{first_of_file, union_content}
use Rattle.s2session.specs.Working.Source.{Ahead, Passes, held}
use Rattle.s2session.specs.Working.Taking.{Refuses, Takes, Lacks}
use Rattle.s2session.specs.Working.Reading.{Judges}
use Rattle.s2session.specs.Reading.{RefusesToRead, WasLeft}
use Rattle.s2session.specs.declared.source.Buffer.{Buffer}
use Rattle.s2session.specs.declared.fault.ReadFault.{ReadFault}
use Rattle.s2session.specs.declared.fault.ReadFault.TheVariants.{Form, Device, Memory}
use Rattle.s2session.proofs.SessionReading.{refuses}
use Rattle.s2session.proofs.SessionRows.{file_without_registers, file_without_past, file_without_future, file_with_more}
use Rattle.s2session.proofs.SessionRows.{file_of_many}
use Rattle.s2session.proofs.Taking.{joined, later, of_front, refuses_later, refuses_weaker, weaker, held_all}
use Rattle.s2session.proofs.Taking.{left_behind}

-- nothing more is left than the bytes that were taken
pub all_of : {old now coming : Claim → List ℕ → Type 0} {bytes : List ℕ} → Passes old now bytes → (b : Buffer) →
    Passes now (Ahead b coming) [] → ((claim : Claim) (rest : List ℕ) → coming claim rest → rest ≡ [])
    → length (held b) < 1 → WasLeft old (Ahead b coming) (λ all. all ≡ bytes)
all_of {bytes} p b end none few =
    later p (λ rest e. ap (λ (l : List ℕ). bytes ++ l) e ∙ append-nil bytes)
    (held_all b {Q = λ rest. rest ≡ []} end none (is_empty (held b) few))
  where
    is_empty : (l : List ℕ) → length l < 1 → l ≡ []
    is_empty [] few = refl
    is_empty (x ∷ l) few = absurd (omega (arith, few))

-- ---- a session file

abbrev pub NoFile : List ℕ → Type 0
NoFile bytes = (s : Content) → IsSessionFile bytes s → ⊥

abbrev pub NoHead : List ℕ → Type 0
NoHead bytes = (rest : List ℕ) → bytes ≡ 0x73 ∷ 1 ∷ rest → ⊥

pub no_first : (fault : ReadFault) {old new : Claim → List ℕ → Type 0} → Lacks byte_text IsByte fault old new →
    WasLeft old new (λ bytes. Refuses fault (NoHead bytes))
no_first fault = refuses_weaker fault _ NoHead
    (λ bytes none rest e. none 0x73 (1 ∷ rest) (record { is = e; ok = omega arith }))

module _ {old mid : Claim → List ℕ → Type 0} {first : ℕ} (t : Takes byte_text IsByte old first mid) where
  pub first_wrong : first ≢ 0x73 → WasLeft old mid NoHead
  first_wrong ne = of_front t.is (λ rest more e. ne (after_byte first 0x73 rest (1 ∷ more) e).0)

  pub no_second : (fault : ReadFault) {new : Claim → List ℕ → Type 0} → Lacks byte_text IsByte fault mid new →
      WasLeft old new (λ bytes. Refuses fault (NoHead bytes))
  no_second fault = refuses_later fault _ NoHead t.is (λ rest none more e.
      none 1 more (record { is = (after_byte first 0x73 rest (1 ∷ more) e).1; ok = omega arith }))

  pub second_wrong : {new : Claim → List ℕ → Type 0} {second : ℕ} → Takes byte_text IsByte mid second new →
      second ≢ 1 → WasLeft old new NoHead
  second_wrong {second} u ne = of_front (joined t.is u.is) (λ rest more e.
      ne (after_byte second 1 rest more (after_byte first 0x73 (second ∷ rest) (1 ∷ more) e).1).0)

pub no_head : (fault : ReadFault) {old new : Claim → List ℕ → Type 0} →
    WasLeft old new (λ bytes. Refuses fault (NoHead bytes)) → WasLeft old new (λ bytes. Refuses fault (NoFile bytes))
no_head fault = refuses_weaker fault NoHead NoFile (λ bytes none s f. none (parts_text s) f.text)

module _ {old m1 : Claim → List ℕ → Type 0} (h : Passes old m1 (0x73 ∷ 1 ∷ [])) where
  pub no_registers : (fault : ReadFault) {new : Claim → List ℕ → Type 0} →
      Lacks registers_text AreRegisters fault m1 new → WasLeft old new (λ bytes. Refuses fault (NoFile bytes))
  no_registers fault = refuses_later fault _ NoFile h (λ rest. file_without_registers _ rest refl)

  module _ {m2 : Claim → List ℕ → Type 0} {lists : List (List ℕ)}
      (r : Takes registers_text AreRegisters m1 lists m2) where
    pub no_past : (fault : ReadFault) {new : Claim → List ℕ → Type 0} → Lacks moves_text AreMoves fault m2 new →
        WasLeft old new (λ bytes. Refuses fault (NoFile bytes))
    no_past fault p =
        refuses_later fault _ _ (joined h r.is)
        (λ rest none. file_without_past _ (registers_text lists ++ rest) refl lists rest
        (record { is = refl; ok = r.ok }) none) p

    module _ {m3 : Claim → List ℕ → Type 0} {past : List Diff} (p : Takes moves_text AreMoves m2 past m3) where
      pub no_future : (fault : ReadFault) {new : Claim → List ℕ → Type 0} → Lacks moves_text AreMoves fault m3 new →
          WasLeft old new (λ bytes. Refuses fault (NoFile bytes))
      no_future fault f =
          refuses_later fault _ _ (joined h (joined r.is p.is))
          (λ rest none. file_without_future _ ((registers_text lists ++ moves_text past) ++ rest) refl lists
          (moves_text past ++ rest)
          (record { is = append_assoc (registers_text lists) (moves_text past) rest; ok = r.ok }) past rest
          (record { is = refl; ok = p.ok }) none) f

      module _ {m4 : Claim → List ℕ → Type 0} {future : List Diff} (f : Takes moves_text AreMoves m3 future m4) where
        pub all_taken : Passes old m4 (0x73 ∷ 1 ∷ (registers_text lists ++ (moves_text past ++ moves_text future)))
        all_taken = joined h (joined r.is (joined p.is f.is))

        -- nothing more is left
        pub session_found : {coming : Claim → List ℕ → Type 0} (b : Buffer) → Passes m4 (Ahead b coming) [] →
            ((claim : Claim) (rest : List ℕ) → coming claim rest → rest ≡ []) → length (held b) < 1 →
            IsContent (record { registers = lists; past = past; future = future }) →
            WasLeft old (Ahead b coming)
            (λ bytes. IsSessionFile bytes (record { registers = lists; past = past; future = future }))
        session_found b end none few content =
            weaker (λ bytes is. record { content = content; text = is }) (all_of all_taken b end none few)

        parts : (rest : List ℕ) → (registers_text lists ++ (moves_text past ++ moves_text future)) ++ rest
            ≡ registers_text lists ++ ((moves_text past ++ moves_text future) ++ rest)
        parts rest = append_assoc (registers_text lists) (moves_text past ++ moves_text future) rest

        pub more_than_parts : {new : Claim → List ℕ → Type 0} → WasLeft m4 new (λ rest. rest ≢ []) →
            WasLeft old new NoFile
        more_than_parts more =
            later all_taken
            (λ rest some. file_with_more _ _ refl lists ((moves_text past ++ moves_text future) ++ rest)
            (record { is = parts rest; ok = r.ok }) past (moves_text future ++ rest)
            (record { is = append_assoc (moves_text past) (moves_text future) rest; ok = p.ok }) future rest
            (record { is = refl; ok = f.ok }) some) more

        pub too_many_changes : SESSION_CHANGES < length past + length future → {new : Claim → List ℕ → Type 0} →
            Passes m4 new [] → WasLeft old new NoFile
        too_many_changes many {new} end =
            later all_taken
            (λ rest _. file_of_many _ _ refl lists ((moves_text past ++ moves_text future) ++ rest)
            (record { is = parts rest; ok = r.ok }) past (moves_text future ++ rest)
            (record { is = append_assoc (moves_text past) (moves_text future) rest; ok = p.ok }) future rest
            (record { is = refl; ok = f.ok }) many) (of_front {Q = λ _. Unit {0}} end (λ _. tt))

-- ---- a union file

-- the bytes that were taken are all
pub union_found : {old new : Claim → List ℕ → Type 0} (bytes : List ℕ) (answer : Result Session ReadFault) →
    WasLeft old new (λ all. all ≡ bytes) → MatchResult answer (λ session. IsUnionFile bytes (content_of session))
    (λ fault. Refuses fault ((s : Content) → IsUnionFile bytes s → ⊥)) → Judges IsUnionFile old new answer
union_found bytes (Ok session) all h = (
  union_content h,
  weaker (λ (l : List ℕ) e. subst (λ (l : List ℕ). IsUnionFile l (content_of session)) (sym e) h) all,
)
union_found bytes (Err fault) all h =
    weaker (λ (l : List ℕ) e. subst (λ (l : List ℕ). Refuses fault ((s : Content) → IsUnionFile l s → ⊥)) (sym e) h) all

-- what is longer than any file is none
pub union_too_long : {old new : Claim → List ℕ → Type 0} (bytes : List ℕ) → Passes old new bytes →
    MOST_SIZE < length bytes → WasLeft old new (λ bytes. (s : Content) → IsUnionFile bytes s → ⊥)
union_too_long bytes p most =
    of_front p (λ rest s u. absurd (omega (arith, most, length-append bytes rest, longest _ _ u.file)))

-- ---- the first byte tells which of the two the bytes may be

module _ {start coming : Claim → List ℕ → Type 0} (b : Buffer) (p : Passes start (Ahead b coming) [])
    (some : 1 ≤ length (held b)) where
  first : (bytes rest : List ℕ) → bytes ≡ held b ++ rest → slice_index bytes 0 ≡ slice_index (held b) 0
  first bytes rest e = ap (λ (l : List ℕ). slice_index l 0) e ∙ get_or_append_left (held b) rest 0 0 (omega (
    arith,
    some,
  ))

  -- what holds of the bytes that are left, as some of these are held, holds of those that were
  held_known : {new : Claim → List ℕ → Type 0} {P Q : List ℕ → Type 0} →
      ((bytes rest : List ℕ) → bytes ≡ held b ++ rest → P bytes → Q bytes) → WasLeft (Ahead b coming) new P →
      WasLeft start new Q
  held_known f h = record {
    back = λ claim rest left.
        let was = h.back claim rest left in
        (was.0, p.back claim was.0 was.1, f was.0 was.1.rest was.1.is was.2);
  }

  pub spells_union : (new : Claim → List ℕ → Type 0) (answer : Result Session ReadFault) → slice_index (held b) 0 ≡ 1 →
      Judges IsUnionFile (Ahead b coming) new answer → Judges Spells start new answer
  spells_union new (Ok session) one h = (h.0, held_known (λ bytes rest e u. inr u) h.1)
  spells_union new (Err fault) one h =
      held_known (λ bytes rest e. refuses fault _ ((s : Content) → Spells bytes s → ⊥)
      (λ none s. no_spelling bytes (first bytes rest e ∙ one) none s)) h
    where
      no_spelling : (bytes : List ℕ) → slice_index bytes 0 ≡ 1 → ((s : Content) → IsUnionFile bytes s → ⊥)
          → (s : Content) → Spells bytes s → ⊥
      no_spelling bytes is none s (inl f) = absurd (omega (arith, is, first_of_file f))
      no_spelling bytes is none s (inr u) = none s u

  -- whatever the form of a session file, a first byte other than 1 is of no union file
  pub spells_file : (new : Claim → List ℕ → Type 0) (answer : Result Session ReadFault) → slice_index (held b) 0 ≢ 1 →
      Judges IsSessionFile (Ahead b coming) new answer → Judges Spells start new answer
  spells_file new (Ok session) other h = (h.0, held_known (λ bytes rest e f. inl f) h.1)
  spells_file new (Err fault) other h =
      held_known (λ bytes rest e. refuses fault _ ((s : Content) → Spells bytes s → ⊥)
      (λ none s. no_spelling bytes (λ one. other (sym (first bytes rest e) ∙ one)) none s)) h
    where
      no_spelling : (bytes : List ℕ) → slice_index bytes 0 ≢ 1 → ((s : Content) → IsSessionFile bytes s → ⊥)
          → (s : Content) → Spells bytes s → ⊥
      no_spelling bytes other none s (inl f) = none s f
      no_spelling bytes other none s (inr u) = other u.file.is.framed.head.version.version

-- ---- the answer

-- no byte is no session
pub nothing_found : {start coming : Claim → List ℕ → Type 0} (b : Buffer) → Passes start (Ahead b coming) [] →
    ((claim : Claim) (rest : List ℕ) → coming claim rest → rest ≡ []) → length (held b) < 1 →
    Judges Spells start (Ahead b coming) (Err Form)
nothing_found b p none few = held_all b p none (λ s spells. nothing (held b) few s spells)
  where
    nothing : (bytes : List ℕ) → length bytes < 1 → (s : Content) → Spells bytes s → ⊥
    nothing bytes few s (inl f) = absurd (omega (arith, ap length f.text, few))
    nothing bytes few s (inr u) = absurd (omega (arith, u.file.is.framed.length_is, few))

-- what was judged of the bytes that came is so of all that were ahead: they spell the session, or no session
pub answers : {start new : Claim → List ℕ → Type 0} (answer : Result Session ReadFault) →
    Judges Spells start new answer → WasLeft start new (λ bytes. MatchResult answer
    (λ session. Spells bytes (content_of session)) (λ fault. RefusesToRead fault bytes))
answers (Ok session) h = h.1
answers (Err fault) h = weaker (refused fault) h
  where
    refused : (fault : ReadFault) (bytes : List ℕ) → Refuses fault ((s : Content) → Spells bytes s → ⊥) →
        RefusesToRead fault bytes
    refused Form bytes none = none
    refused Device bytes none = tt
    refused Memory bytes none = tt

-- what is held at the end is left behind
pub behind : {start coming : Claim → List ℕ → Type 0} (b : Buffer) {P : List ℕ → Type 0} →
    WasLeft start (Ahead b coming) P → WasLeft start coming P
behind b h = record {
  back = λ claim rest left. h.back claim (held b ++ rest) ((left_behind b).back claim rest left);
}

-- ---- the bytes of a file in memory

comes_whole : (ended : Bool) (ahead : Option (List ℕ)) (rest bytes : List ℕ) → ended ≡ false → ahead ≡ Some bytes →
    MayCome ended ahead rest → rest ≡ bytes
comes_whole true ahead rest bytes e is comes = absurd (true≢false e)
comes_whole false None rest bytes e is comes = absurd (none-some bytes is)
comes_whole false (Some xs) rest bytes e is comes = comes ∙ same_Some xs bytes is

-- what was left of a file whose reader exposes its bytes are these
pub was_known : {F : Type 0} (remaining : F → Option (List ℕ)) (old new : OpenedFile F) (reader : F) (bytes : List ℕ)
    (P : List ℕ → Type 0) → has_ended old ≡ false → below old ≡ reader → remaining reader ≡ Some bytes →
    WasLeft (Left remaining old) (Left remaining new) P → P bytes
was_known remaining old new reader bytes P begun over is h =
    let (content, (rest, may)) = some_content remaining new in
    let was = h.back _ rest may in
    subst P (comes_whole (has_ended old) (remaining (below old)) was.0 bytes begun (ap remaining over ∙ is)
    was.1.comes) was.2
