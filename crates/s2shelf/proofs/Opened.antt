-- What a file that was opened, read and closed leaves on its shelf.
use Rattle.std.proofs.Common.{◌≡◌, ℕ, Bool, true, false, List, [], ◌∷◌, ◌++◌, Option, None, Some, inl, inr, refl, sym}
use Rattle.std.proofs.Common.{ap, ◌∙◌, subst, append_assoc}
use Rattle.std.proofs.lemmas.List.{append-nil}
use Rattle.std.proofs.lemmas.Option.{same_Some}
use Rattle.std.proofs.lemmas.Slice.Eq.{bytes_eq-Decides}
use Rattle.std.specs.Prelude.{option_map, if◌then◌else◌, IfSome}
use Rattle.s2shelf.specs.FileCalls.{FileCall, Makes, path_to, opening, reading}
use Rattle.s2shelf.specs.OpenedFile.{name_of, given, has_ended, below, Claim, known_left, MayCome, Left, MayBe}
use Rattle.s2shelf.specs.Shelf.{Files, Found, Finding, one_more, KeepsFiles, SameFiles, Allows, finding_read}
use Rattle.s2shelf.specs.Shelf.{finding_of_file, Opened, Holding, Failed, closed, without_opening, Finds, MayFind, Asks}
use Rattle.s2shelf.specs.Shelf.{FindsMore, FindsAtClosing, Opens, Closes, Fails, FailsToClose, FailsToGet}
use Rattle.s2shelf.specs.Shelf.{AsksSystem, CallsFor}
use Rattle.s2shelf.specs.declared.opened_file.OpenedFile.{OpenedFile}
use Rattle.s2shelf.specs.declared.shelf.ShelfFault.{ShelfFault}
use Rattle.s2shelf.specs.declared.shelf.ShelfFault.TheVariants.{Device, Memory}

-- ---- what an opened file may hold

-- something may still come of any file
comes : (ended : Bool) (ahead : Option (List ℕ)) → (rest : List ℕ) × MayCome ended ahead rest
comes true ahead = ([], refl)
comes false None = ([], tt)
comes false (Some bytes) = (bytes, refl)

-- nothing more has to come once the end was reached
ends : (ended : Bool) (ahead : Option (List ℕ)) → ended ≡ true → MayCome ended ahead []
ends true ahead e = refl
ends false ahead e = absurd cc

-- anything may follow what a finding has read, if what is known of the reader doesn't have to agree
follows : (ended : Bool) (ahead : Option (List ℕ)) (bytes all : List ℕ) →
    Allows (finding_read ended bytes) (Some all)
    → (rest : List ℕ) × (all ≡ bytes ++ rest) × MayCome ended (known_left false ahead) rest
follows true ahead bytes all is = ([], same_Some all bytes is ∙ sym (append-nil bytes), refl)
follows false ahead bytes all (rest, is) = (rest, same_Some all (bytes ++ rest) is, tt)

-- what may be there is allowed by what was found
agrees : (ended : Bool) (ahead : Option (List ℕ)) (bytes rest : List ℕ) → MayCome ended ahead rest →
    Allows (finding_read ended bytes) (Some (bytes ++ rest))
agrees true ahead bytes rest none = ap (λ (r : List ℕ). Some (bytes ++ r)) none ∙ ap Some (append-nil bytes)
agrees false ahead bytes rest may = (rest, refl)

-- the finding of a file whose end was reached is its content
holding : (ended : Bool) (bytes : List ℕ) → ended ≡ true → finding_read ended bytes ≡ Holding bytes
holding true bytes e = refl
holding false bytes e = absurd cc

module _ {F : Type 0} (remaining : F → Option (List ℕ)) (file : OpenedFile F) where
  -- some content may be there, whatever was read
  pub some_content : (content : List ℕ) × MayBe remaining file content
  some_content =
      let (rest, may) = comes (has_ended file) (remaining (below file)) in
      (given file ++ rest, (rest, record { named = refl; whole = refl; comes = may }))

  -- what was read may be the content, if the end was reached
  whole_content : has_ended file ≡ true → MayBe remaining file (given file)
  whole_content ended = (
    [],
    record {
      named = refl;
      whole = sym (append-nil (given file));
      comes = ends (has_ended file) (remaining (below file)) ended;
    },
  )

  -- each content that the finding allows may be claimed, if what is known of the reader doesn't have to agree
  any_content : (all : List ℕ) → Allows (finding_of_file file) (Some all) → (rest : List ℕ)
      × Left remaining file (record { name = name_of file; content = all; knows = false }) rest
  any_content all allows =
      let (rest, is, may) = follows (has_ended file) (remaining (below file)) (given file) all allows in
      (rest, record { named = refl; whole = is; comes = may })

  -- the finding allows what may be claimed
  allowed : (claim : Claim) (rest : List ℕ) → Left remaining file claim rest →
      Allows (finding_of_file file) (Some claim.content)
  allowed claim rest left = subst (λ (c : List ℕ). Allows (finding_of_file file) (Some c)) (sym left.whole)
      (agrees (has_ended file) (known_left claim.knows (remaining (below file))) (given file) rest left.comes)

-- ---- a file that was opened, as `start`, and closed, as `end`

module _ {F : Type 0} (remaining : F → Option (List ℕ)) (start end : OpenedFile F) where
  -- whatever may be left at the end, is the end of what was left at the start, of which this holds
  abbrev pub ReadsOf : (List ℕ → Type 0) → Type 0
  ReadsOf P = (claim : Claim) (rest : List ℕ) → Left remaining end claim rest
      → (bytes : List ℕ) × Left remaining start claim bytes × P bytes

  -- it has one name
  one_name : (P : List ℕ → Type 0) → ReadsOf P → name_of end ≡ name_of start
  one_name P reads =
      let (content, (rest, may)) = some_content remaining end in
      let (bytes, left, holds) = reads _ rest may in
      sym left.named

-- what is found at a closing stands where the opening stood
takes_the_place : (known : Option (List Found)) (name : List ℕ) (f : Finding) →
    option_map (closed (record { name = name; finding = f }))
    (option_map (λ (before : List Found). record { name = name; finding = Opened } ∷ before) known)
    ≡ option_map (λ (before : List Found). record { name = name; finding = f } ∷ before) known
takes_the_place None name f = refl
takes_the_place (Some found) name f =
    ap (λ (same : Bool). Some (record { name = name; finding = f } ∷ (if same then found
    else record { name = name; finding = Opened } ∷ without_opening name found))) ((bytes_eq-Decides name name).1 refl)

opened_and_closed : {F : Type 0} (old opened new : Files) (name : List ℕ) (end : OpenedFile F) (f : Finding) →
    name_of end ≡ name → FindsMore old name Opened opened → FindsAtClosing opened end f new → FindsMore old name f new
opened_and_closed old opened new name end f is opens closes =
    closes ∙ ap (option_map (closed (record { name = name_of end; finding = f }))) opens
    ∙ ap (λ (n : List ℕ). option_map (closed (record { name = n; finding = f }))
    (option_map (λ (before : List Found). record { name = name; finding = Opened } ∷ before) old.found)) is
    ∙ takes_the_place old.found name f

-- ---- what it asked of the system

-- calls of which this holds, and then calls of which that holds
calls_then : (folder next : Option (List ℕ)) (a b c : List FileCall) (P Q R : List ℕ → List FileCall → Type 0) →
    next ≡ folder
    → ((path : List ℕ) (xs ys : List FileCall) → P path xs → Q path ys → R path (xs ++ ys))
    → IfSome folder (λ path. Makes a b (P path)) → IfSome next (λ path. Makes b c (Q path))
    → IfSome folder (λ path. Makes a c (R path))
calls_then None next a b c P Q R same both first second = tt
calls_then (Some path) next a b c P Q R same both (xs, is, holds) second =
    let (ys, more, next_holds) = subst (λ (l : Option (List ℕ)). IfSome l (λ p. Makes b c (Q p))) same second in
    (xs ++ ys, more ∙ ap (λ (l : List FileCall). l ++ ys) is ∙ append_assoc a xs ys, both path xs ys holds next_holds)

asks_then : (old mid new : Files) (P Q R : List ℕ → List FileCall → Type 0) → AsksSystem old mid P →
    AsksSystem mid new Q
    → ((folder : List ℕ) (xs ys : List FileCall) → P folder xs → Q folder ys → R folder (xs ++ ys))
    → AsksSystem old new R
asks_then old mid new P Q R (same, first) (next_same, second) both = (
  next_same ∙ same,
  calls_then old.folder mid.folder old.calls mid.calls new.calls P Q R same both first second,
)

makes_so : (folder : Option (List ℕ)) (a b : List FileCall) (P Q : List ℕ → List FileCall → Type 0) →
    ((path : List ℕ) (calls : List FileCall) → P path calls → Q path calls)
    → IfSome folder (λ path. Makes a b (P path)) → IfSome folder (λ path. Makes a b (Q path))
makes_so None a b P Q so made = tt
makes_so (Some path) a b P Q so (calls, more, holds) = (calls, more, so path calls holds)

-- what a folder asked for of which this holds, if it holds of each such calls
pub asks_so : (old new : Files) (P Q : List ℕ → List FileCall → Type 0) → AsksSystem old new P →
    ((folder : List ℕ) (calls : List FileCall) → P folder calls → Q folder calls) → AsksSystem old new Q
asks_so old new P Q (same, asked) so = (same, makes_so old.folder old.calls new.calls P Q so asked)

-- the calls of an opening, and then those of the closing of a file of the same name
both_calls : (folder name named bytes : List ℕ) (xs ys : List FileCall) → named ≡ name →
    xs ≡ opening (path_to folder name) → ys ≡ reading (path_to folder named) bytes →
    xs ++ ys ≡ opening (path_to folder name) ++ reading (path_to folder name) bytes
both_calls folder name named bytes xs ys is first second =
    ap (λ (l : List FileCall). l ++ ys) first
    ∙ ap (λ (l : List FileCall). opening (path_to folder name) ++ l) second
    ∙ ap (λ (n : List ℕ). opening (path_to folder name) ++ reading (path_to folder n) bytes) is

calls_read : (ended : Bool) (bytes path : List ℕ) (calls : List FileCall) →
    calls ≡ opening path ++ reading path bytes → CallsFor (finding_read ended bytes) path calls
calls_read true bytes path calls is = is
calls_read false bytes path calls is =
    ([], is ∙ ap (λ (b : List ℕ). opening path ++ reading path b) (sym (append-nil bytes)))

module _ {F : Type 0} (remaining : F → Option (List ℕ)) (old opened new : Files) (name : List ℕ)
    (start end : OpenedFile F) (opens : Opens remaining old name (Some start) opened) (closes : Closes opened end new)
  where
    -- at the start all of the content is left
    all_left : (claim : Claim) (bytes : List ℕ) → Left remaining start claim bytes → bytes ≡ claim.content
    all_left claim bytes left = sym (left.whole ∙ ap (λ (b : List ℕ). b ++ bytes) opens.unread)

    asks : (content bytes : List ℕ) →
        Left remaining start (record { name = name_of end; content = content; knows = true }) bytes
        → Asks old name (Some content) (finding_of_file end) new
    asks content bytes left =
        let is : name_of end ≡ name = sym left.named ∙ opens.named in
        let may : MayBe remaining start content = (
          bytes,
          record { named = refl; whole = left.whole; comes = left.comes },
        ) in
        record {
          same = (
            record {
              tells = closes.same.0.tells ∙ opens.same.0.tells;
              at = λ t other. closes.same.0.at (opens.same.0.tells ∙ t) other ∙ opens.same.0.at t other;
            },
            closes.same.1 ∙ opens.same.1,
          );
          holds = opens.holds content may;
          asked = opened_and_closed old opened new name end (finding_of_file end) is opens.asked closes.asked;
          calls = asks_then old opened new _ _ _ opens.calls closes.calls (λ folder xs ys first second.
              calls_read (has_ended end) (given end) (path_to folder name) (xs ++ ys)
              (both_calls folder name (name_of end) (given end) xs ys is first second));
        }

    -- a file that was read to its end was found
    pub found_whole : (P : List ℕ → Type 0) → has_ended end ≡ true → ReadsOf remaining start end P →
        Finds old name (Some (given end)) new × P (given end)
    found_whole P ended reads =
        let (rest, whole) = whole_content remaining end ended in
        let (bytes, left, holds) = reads _ rest whole in (
          subst (λ f. Asks old name (Some (given end)) f new) (holding (has_ended end) (given end) ended)
              (asks (given end) bytes left),
          subst P (all_left _ bytes left) holds,
        )

    -- some content may have been found, and this holds of each that may
    pub found_some : (P : List ℕ → Type 0) → ReadsOf remaining start end P →
        (bytes : List ℕ) × (found : MayFind old name (Some bytes) new)
        × ((all : List ℕ) → Allows found.finding (Some all) → P all)
    found_some P reads =
        let (content, (rest, may)) = some_content remaining end in
        let (bytes, left, _) = reads _ rest may in (
          content,
          record {
            finding = finding_of_file end;
            allows = allowed remaining end _ rest may;
            asks = asks content bytes left;
          },
          λ all allows.
              let (more, might) = any_content remaining end all allows in
              let (b, first, holds) = reads _ more might in
              subst P (all_left _ b first) holds,
        )

-- a file was opened, and its closing failed
pub opened_fails : {F : Type 0} (remaining : F → Option (List ℕ)) (old opened new : Files) (name : List ℕ)
    (start end : OpenedFile F) (fault : ShelfFault) (P : List ℕ → Type 0) → Opens remaining old name (Some start) opened
    → ReadsOf remaining start end P → FailsToClose opened end new fault → Fails old name new Device
opened_fails remaining old opened new name start end fault P opens reads fails = record {
  keeps = record {
    tells = fails.keeps.tells ∙ opens.same.0.tells;
    at = λ t other. fails.keeps.at (opens.same.0.tells ∙ t) other ∙ opens.same.0.at t other;
  };
  counted = fails.counted ∙ ap one_more opens.same.1;
  found = opened_and_closed old opened new name end (Failed Device) (one_name remaining start end P reads ∙ opens.named)
      opens.asked fails.found;
  calls = asks_then old opened new _ _ _ opens.calls fails.calls (λ folder xs ys first second. inr (
    given end,
    both_calls folder name (name_of end) (given end) xs ys (one_name remaining start end P reads ∙ opens.named) first
        second,
  ));
}

-- each file stays after a failed read, and the count rises if the device failed
pub get_fails_for_device : (old new : Files) (name : List ℕ) → FailsToGet old name new Device →
    KeepsFiles old new × (new.failures ≡ one_more old.failures)
get_fails_for_device old new name (inl f) = (f.keeps, f.counted)
get_fails_for_device old new name (inr (memory, found)) = absurd cc

-- nothing changes but what was found, if there is no memory
pub get_fails_for_memory : (old new : Files) (name : List ℕ) → FailsToGet old name new Memory → SameFiles old new
get_fails_for_memory old new name (inl f) = (f.keeps, f.counted)
get_fails_for_memory old new name (inr (memory, found)) = found.1.asks.same
