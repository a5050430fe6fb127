-- Bytes that were stored come back where they are found.
use Rattle.std.proofs.Common.{◌≡◌, ℕ, ◌≤◌, inl, inr, Bool, List, [], ◌∷◌, length, Option, None, Some, refl, sym}
use Rattle.std.proofs.Common.{ap, ◌∙◌, subst, arith}
use Rattle.std.specs.Prelude.{option_map}
use Rattle.std.proofs.lemmas.Option.{same_Some, none-some}
use Rattle.s2list.specs.Union.{has_leaf, IsNormalForm}
use Rattle.s2list.proofs.Normal.{one_normal_form, normal_form_same, normal_from_local}
use Rattle.s2edit.specs.Chain.{IsLocalWithin}
use Rattle.s2edit.specs.History.{History, Assigned}
use Rattle.s2edit.specs.Leads.{list_at}
use Rattle.s2session.specs.Session.{Text, Stored}
use Rattle.s2edit.specs.Session.{Restored}
use Rattle.s2session.proofs.Spelling.{text_is_stored}
use Rattle.s2file.specs.declared.union_file.TheConstants.{MOST_FILE}
use Rattle.s2file.specs.File.{Bytes, File, file_text}
use Rattle.s2file.proofs.Files.{same_leaves}
use Rattle.s2file.proofs.Texts.{file_of_text}
use Rattle.s2shelf.specs.Shelf.{Files, Finding, NoFile, Opened, Holding, Beginning, Written, Failed, Found, Allows}
use Rattle.s2script.specs.declared.command.Command.TheVariants.{Load, Save, Dump, Restore}
use Rattle.s2script.specs.declared.command.Parsed.TheVariants.{Does}
use Rattle.s2calc.specs.World.{World}
use Rattle.s2calc.specs.Replies.{Reply, Says, Refuses}
use Rattle.s2calc.specs.Texts.{done_line}
use Rattle.s2calc.specs.Edits.{leaves_of, Gets}
use Rattle.s2calc.specs.Step.{WritesFile, Loads, Restores, StepBy}
use Rattle.s2calc.specs.Laws.{IsPlain}
use Rattle.s2calc.specs.LawsStored.{FoundLast, GetsList, StoredComesBack}
use Rattle.s2calc.proofs.FetchLemmas.{read_or_none}
use Rattle.s2calc.proofs.OneRun.{same_heads, settled}
use Rattle.s2calc.proofs.SessionLemmas.{one_taken, taken_or_refused}

-- ---- what was found last

same_entry : (known : Option (List Found)) (one other : Found) (before : List Found) →
    option_map (λ (fs : List Found). one ∷ fs) known ≡ Some (other ∷ before) → one ≡ other
same_entry None one other before e = absurd (none-some (other ∷ before) e)
same_entry (Some found) one other before e =
    (same_heads one other found before (same_Some (one ∷ found) (other ∷ before) e)).0

-- what a call found is what was found last
found_so : (old : Files) (name other : List ℕ) (f g : Finding) (now : World) → FoundLast other g now →
    now.files.found ≡ option_map (λ (fs : List Found). record { name = name; finding = f } ∷ fs) old.found → f ≡ g
found_so old name other f g now last e =
    ap (λ (one : Found). one.finding) (same_entry old.found (record { name = name; finding = f })
    (record { name = other; finding = g }) last.0 (sym e ∙ last.1))

abbrev bytes_in : Finding → List ℕ
bytes_in NoFile = []
bytes_in Opened = []
bytes_in (Holding bytes) = bytes
bytes_in (Beginning bytes) = []
bytes_in (Written bytes) = bytes
bytes_in (Failed fault) = []

-- ---- what was stored

-- a line that is answered `ok` stored bytes of this kind, which are those that were found last
stored : (AreThose : List ℕ → Type 0) (name bytes : List ℕ) (a b : World) →
    WritesFile AreThose name a (Says done_line) b → FoundLast name (Written bytes) b → AreThose bytes
stored AreThose name bytes a b (same, inl (others, those, inl (answer, puts))) last =
    subst AreThose (ap bytes_in (found_so a.files name name (Written others) (Written bytes) b last puts.found)) those
stored AreThose name bytes a b (same, inl (others, those, inr (inl (answer, fails)))) last = absurd cc
stored AreThose name bytes a b (same, inl (others, those, inr (inr (answer, fails)))) last = absurd cc
stored AreThose name bytes a b (same, inr (answer, keeps)) last = absurd cc

-- ---- a list

-- the file of a list that fits into one
file_of : (u bytes : List ℕ) → IsLocalWithin MOST_FILE u → Bytes (has_leaf u) bytes → File bytes (has_leaf u)
file_of u bytes w b =
    let one : b.ids ≡ u = one_normal_form (has_leaf u) b.ids u b.normal (normal_from_local u w.local) in
    file_of_text bytes w.local (b.is ∙ ap file_text one) w.few

gets_list : (u : List ℕ) (S : ℕ → Bool) (r : ℕ) (old new : History (List ℕ)) (reply : Reply) → IsNormalForm S u →
    Gets S r old reply new → IsPlain reply → GetsList u r old reply new
gets_list u S r old new reply n (inl (becomes, says)) p =
    let one : becomes.list ≡ u = one_normal_form S becomes.list u becomes.normal n in
    inl (
      subst (λ (v : List ℕ). length v ≤ old.limit) one becomes.within,
      subst (λ (v : List ℕ). Assigned old r v new) one becomes.state,
      says,
    )
gets_list u S r old new reply n (inr (inl (answer, long, same))) p =
    let one = ap length (one_normal_form S long.list u long.normal n) in
    let above = long.above in
    inr (omega (arith, one, above), answer, same)
gets_list u S r old new reply n (inr (inr (answer, same))) p = absurd (p.0 answer)

loaded : (u : List ℕ) (name bytes : List ℕ) (r : ℕ) (c d : World) (reply : Reply) → IsLocalWithin MOST_FILE u →
    File bytes (has_leaf u) → Loads r name c reply d → IsPlain reply → FoundLast name (Holding bytes) d
    → GetsList u r c.state reply d.state
loaded u name bytes r c d reply w file (inl (S, (others, found, read), gets)) p last =
    let same : others ≡ bytes =
    ap bytes_in (found_so c.files name name (Holding others) (Holding bytes) d last found.asked) in
    let leaves : (x : ℕ) → has_leaf u x ≡ S x =
    same_leaves bytes (has_leaf u) S file (subst (λ (b : List ℕ). File b S) same read) in
    gets_list u S r c.state d.state reply (normal_form_same (has_leaf u) S u leaves (normal_from_local u w.local)) gets
    p
loaded u name bytes r c d reply w file (inr (refusal, inl (inl (missing, found)), answer, same)) p last =
    let none = found_so c.files name name NoFile (Holding bytes) d last found.asked in absurd cc
loaded u name bytes r c d reply w file (inr (refusal, inl (inr (inl (failed, _))), answer, same)) p last =
    absurd (p.1 (answer ∙ ap (λ x. Refuses x) failed))
loaded u name bytes r c d reply w file (inr (refusal, inl (inr (inr (failed, _))), answer, same)) p last =
    absurd (p.0 (answer ∙ ap (λ x. Refuses x) failed))
loaded u name bytes r c d reply w file (inr (refusal, inr (others, found, refuses), answer, same)) p last =
    let one : found.finding ≡ Holding bytes =
    found_so c.files name name found.finding (Holding bytes) d last found.asks.asked in
    absurd (read_or_none bytes (has_leaf u) refusal file
    (refuses bytes (subst (λ (f : Finding). Allows f (Some bytes)) (sym one) refl)) (settled refusal reply answer p))

-- ---- a state

taken : (name bytes : List ℕ) (c d : World) (state : History (List ℕ)) (reply : Reply) →
    Restored (Stored bytes) c.state state → Restores name c reply d → IsPlain reply → FoundLast name (Holding bytes) d
    → (reply ≡ Says done_line) × (d.state ≡ state)
taken name bytes c d state reply back (inl (others, found, restored, answer)) p last =
    let same : others ≡ bytes =
    ap bytes_in (found_so c.files name name (Holding others) (Holding bytes) d last found.asked) in (
      answer,
      one_taken bytes c.state d.state state
          (subst (λ (b : List ℕ). Restored (Stored b) c.state d.state) same restored) back,
    )
taken name bytes c d state reply back (inr (refusal, inl (inl (missing, found)), answer, kept)) p last =
    let none = found_so c.files name name NoFile (Holding bytes) d last found.asked in absurd cc
taken name bytes c d state reply back (inr (refusal, inl (inr (inl failed)), answer, kept)) p last =
    absurd ((settled refusal reply answer p).1 failed.0)
taken name bytes c d state reply back (inr (refusal, inl (inr (inr failed)), answer, kept)) p last =
    absurd ((settled refusal reply answer p).0 failed.0)
taken name bytes c d state reply back (inr (refusal, inr (others, found, refuses), answer, kept)) p last =
    let one : found.finding ≡ Holding bytes =
    found_so c.files name name found.finding (Holding bytes) d last found.asks.asked in
    absurd (taken_or_refused bytes c.state state refusal back
    (refuses bytes (subst (λ (f : Finding). Allows f (Some bytes)) (sym one) refl)) (settled refusal reply answer p))

-- ---- both

pub comes_back : StoredComesBack
comes_back = record {
  list = λ a b c d line other name found_as bytes r s y e f w step last loads p found.
      let u = list_at a.state.now r in
      let saves : StepBy (Does (Save r name)) a (Says done_line) b =
      subst (λ h. StepBy h a (Says done_line) b) e step.by in
      let by : StepBy (Does (Load s found_as)) c y d = subst (λ h. StepBy h c y d) f loads.by in
      loaded u found_as bytes s c d y w
      (file_of u bytes w (stored (Bytes (leaves_of a.state.now r)) name bytes a b saves last)) by p found;
  state = λ a b c d line other name found_as bytes y e f kept step last restores p found limit depth.
      let dumps : StepBy (Does (Dump name)) a (Says done_line) b =
      subst (λ h. StepBy h a (Says done_line) b) e step.by in
      let by : StepBy (Does (Restore found_as)) c y d = subst (λ h. StepBy h c y d) f restores.by in
      taken found_as bytes c d a.state y (record {
        tells = text_is_stored bytes a.state (stored (Text a.state) name bytes a b dumps last);
        limit = sym limit;
        depth = sym depth;
        kept = kept;
      }) by p found;
}
