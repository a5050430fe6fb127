-- Undo leads back through the past.
use Rattle.std.proofs.Common.{◌≡◌, ◌≢◌, ℕ, suc, ◌+◌, ◌<◌, ◌≤◌, inl, inr, ◌⊎◌, ⊎_elim, Bool, false}
use Rattle.std.proofs.Common.{cond, List, [], ◌∷◌, length, take, count_by, refl, sym, ap, ◌∙◌, subst, arith}
use Rattle.std.proofs.lemmas.List.{length-take, get_or-take}
use Rattle.std.proofs.lemmas.List.Sums.{sum_by-cons}
use Rattle.s2edit.specs.History.{History, changed, undone, undone_to, sets}
use Rattle.s2edit.specs.Leads.{table_at}
use Rattle.s2edit.proofs.OneEnd.{is_there}
use Rattle.s2file.proofs.Texts.{same_bytes}
use Rattle.s2script.specs.declared.command.Command.{Command}
use Rattle.s2script.specs.declared.command.Command.TheVariants.{Edit, Load, Save, Dump, Restore, Undo, Redo, Ask}
use Rattle.s2script.specs.declared.command.Parsed.TheVariants.{Does}
use Rattle.s2script.specs.Line.{line_of}
use Rattle.s2calc.specs.World.{World}
use Rattle.s2calc.specs.Replies.{Reply, is_refusal}
use Rattle.s2calc.specs.Edits.{leaves_of, Gets, Moves}
use Rattle.s2calc.specs.Step.{Step, StepBy, Acts, Loads}
use Rattle.s2calc.specs.Run.{Steps}
use Rattle.s2calc.specs.LawsScripts.{GivesRegister, AllUndo, Changes, AllLinesChange, Reaches, LawOfUndo}

-- now and the earlier tables, the newest first
abbrev tables : History (List ℕ) → List (List (List ℕ))
tables h = h.now ∷ h.past

-- ---- one edit

-- the state is as it was, or this register was given a list
abbrev KeepsOrGives : ℕ → History (List ℕ) → History (List ℕ) → Type 0
KeepsOrGives r old new = (new ≡ old) ⊎ ((u : List ℕ) × (new ≡ changed old r u))

gets_gives : (S : ℕ → Bool) (r : ℕ) (old new : History (List ℕ)) (reply : Reply) → Gets S r old reply new →
    KeepsOrGives r old new
gets_gives S r old new reply (inl h) =
    ⊎_elim (λ e. inl (h.0.state.same e)) (λ n. inr (h.0.list, h.0.state.differs n)) (is_there old.now r h.0.list)
gets_gives S r old new reply (inr (inl h)) = inl h.2
gets_gives S r old new reply (inr (inr h)) = inl h.1

loads_gives : (r : ℕ) (name : List ℕ) (old new : World) (reply : Reply) → Loads r name old reply new →
    KeepsOrGives r old.state new.state
loads_gives r name old new reply (inl h) = gets_gives h.0 r old.state new.state reply h.2
loads_gives r name old new reply (inr h) = inl h.3

acts_gives : (command : Command) (register : ℕ) (old new : World) (reply : Reply) → GivesRegister command register →
    Acts command old reply new → KeepsOrGives register old.state new.state
acts_gives (Edit r edit) register old new reply g h = rw g (gets_gives _ r old.state new.state reply h.0)
acts_gives (Load r name) register old new reply g h = rw g (loads_gives r name old new reply h)
acts_gives (Save r name) register old new reply g h = absurd g
acts_gives (Dump name) register old new reply g h = absurd g
acts_gives (Restore name) register old new reply g h = absurd g
acts_gives Undo register old new reply g h = absurd g
acts_gives Redo register old new reply g h = absurd g
acts_gives (Ask question) register old new reply g h = absurd g

edits_change : (old new : World) (line : List ℕ) (reply : Reply) (command : Command) (register : ℕ) →
    line_of line ≡ Does command → GivesRegister command register → Step old line reply new
    → (new.state ≡ old.state) ⊎ Changes register old line reply new
edits_change old new line reply command register e g s =
    let acts : Acts command old reply new = subst (λ p. StepBy p old reply new) e s.by in
    ⊎_elim (λ k. inl k) (λ c. inr (record { step = s; list = c.0; state = c.1 }))
    (acts_gives command register old new reply g acts)

-- ---- one undo

undone_tables : (h : History (List ℕ)) (ps : List (List (List ℕ))) → h.past ≡ ps → ps ≢ [] → (k : ℕ) →
    table_at (tables (undone_to h ps)) k ≡ table_at (tables h) (suc k)
undone_tables h [] e n k = absurd (n refl)
undone_tables h (t ∷ ts) e n k = ap (λ (xs : List (List (List ℕ))). table_at xs k) (sym e)

pub undone_past : (h : History (List ℕ)) (ps : List (List (List ℕ))) → h.past ≡ ps → ps ≢ [] →
    length (undone_to h ps).past + 1 ≡ length h.past
undone_past h [] e n = absurd (n refl)
undone_past h (t ∷ ts) e n = omega (arith, ap length e)

-- what an undo does that is not refused
record Undone (old : World) (reply : Reply) (new : World) : Type 0 where
  answered : is_refusal reply ≡ false
  state : new.state ≡ undone old.state
  some : old.state.past ≢ []
  files : new.files ≡ old.files

moves_back : (old new : World) (reply : Reply) →
    Moves old.state.past old.state (undone old.state) (undone (sets old.state)) reply new.state →
    new.files ≡ old.files → 0 < length old.state.past → Undone old reply new
moves_back old new reply (inl h) f some = record { answered = ap is_refusal h.3; state = h.1; some = h.0; files = f }
moves_back old new reply (inr h) f some = absurd (omega (arith, ap length h.0))

undo_line : (old new : World) (line : List ℕ) (reply : Reply) → line_of line ≡ Does Undo →
    Step old line reply new → 0 < length old.state.past → Undone old reply new
undo_line old new line reply e s some =
    let by : StepBy (Does Undo) old reply new = subst (λ p. StepBy p old reply new) e s.by in
    moves_back old new reply by.0 by.1 some

-- ---- undo after undo

pub one_refusal_less : (reply : Reply) (replies : List Reply) → is_refusal reply ≡ false →
    count_by is_refusal (reply ∷ replies) ≡ count_by is_refusal replies
one_refusal_less reply replies e = sum_by-cons (λ x. cond (is_refusal x) 1 0) reply replies
    ∙ ap (λ b. cond b 1 0 + count_by is_refusal replies) e ∙ omega arith

-- what undos or redos lead to
pub record LeadsTo (table : List (List ℕ)) (old : World) (replies : List Reply) (new : World) : Type 0 where
  pub none_refused : count_by is_refusal replies ≡ 0
  pub now : new.state.now ≡ table
  pub files : new.files ≡ old.files

undos_lead : (old new : World) (ls : List (List ℕ)) (replies : List Reply) → AllUndo ls →
    length ls ≤ length old.state.past → Steps old ls replies new
    → LeadsTo (table_at (tables old.state) (length ls)) old replies new
undos_lead old new [] [] u few s = record {
  none_refused = refl;
  now = ap (λ (w : World). w.state.now) s;
  files = ap (λ (w : World). w.files) s;
}
undos_lead old new [] (reply ∷ replies) u few s = absurd s
undos_lead old new (line ∷ ls) [] u few s = absurd s
undos_lead old new (line ∷ ls) (reply ∷ replies) u few (mid, s, t) =
    let one = undo_line old mid line reply u.0 s (omega arith) in
    let shorter : length mid.state.past + 1 ≡ length old.state.past =
    ap (λ (h : History (List ℕ)). length h.past + 1) one.state ∙ undone_past old.state old.state.past refl one.some in
    let more = undos_lead mid new ls replies u.1 (omega arith) t in
    let place : table_at (tables mid.state) (length ls) ≡ table_at (tables old.state) (suc (length ls)) =
    ap (λ (h : History (List ℕ)). table_at (tables h) (length ls)) one.state
    ∙ undone_tables old.state old.state.past refl one.some (length ls) in
    record {
      none_refused = one_refusal_less reply replies one.answered ∙ more.none_refused;
      now = more.now ∙ place;
      files = more.files ∙ one.files;
    }

pub reaches : (table : List (List ℕ)) (old new : World) (replies : List Reply) → LeadsTo table old replies new →
    Reaches table old replies new
reaches table old new replies l = record {
  none_refused = l.none_refused;
  now = l.now;
  bytes = λ r bytes others b c. same_bytes (leaves_of new.state.now r) (leaves_of table r) bytes others
      (λ x. ap (λ (t : List (List ℕ)). leaves_of t r x) l.now) b c;
  files = l.files;
}

undos_go_back : (old new : World) (ls : List (List ℕ)) (replies : List Reply) → AllUndo ls →
    length ls ≤ length old.state.past → Steps old ls replies new
    → Reaches (table_at (tables old.state) (length ls)) old replies new
undos_go_back old new ls replies u few s = reaches _ old new replies (undos_lead old new ls replies u few s)

-- ---- changes, and then undos

-- after n changes the earlier tables are n places further back
record FurtherBack (old mid : History (List ℕ)) (places further : ℕ) : Type 0 where
  kept : places + further ≤ length mid.past
  table : table_at (tables mid) (places + further) ≡ table_at (tables old) further

one_further_back : (old mid : History (List ℕ)) (r : ℕ) (u : List ℕ) (k : ℕ) → mid ≡ changed old r u →
    suc k ≤ old.depth → k ≤ length old.past
    → (mid.depth ≡ old.depth) × (suc k ≤ length mid.past) × (table_at (tables mid) (suc k) ≡ table_at (tables old) k)
one_further_back old mid r u k e deep few =
    let past : mid.past ≡ take old.depth (tables old) = ap (λ (h : History (List ℕ)). h.past) e in
    let size = ap length past ∙ length-take old.depth (tables old) in (
      ap (λ (h : History (List ℕ)). h.depth) e,
      omega arith,
      ap (λ (ts : List (List (List ℕ))). table_at ts k) past ∙ get_or-take old.depth (tables old) k [] (omega arith),
    )

changes_further_back : (old mid : World) (ls : List (List ℕ)) (replies : List Reply) (further : ℕ) →
    AllLinesChange old ls replies mid → length ls + further ≤ old.state.depth → further ≤ length old.state.past
    → FurtherBack old.state mid.state (length ls) further
changes_further_back old mid [] [] further c deep few =
    let same : mid.state ≡ old.state = ap (λ (w : World). w.state) c in
    let none : 0 + further ≡ further = omega arith in
    record {
      kept = omega (arith, ap (λ (h : History (List ℕ)). length h.past) same);
      table = ap (λ (k : ℕ). table_at (tables mid.state) k) none
          ∙ ap (λ (h : History (List ℕ)). table_at (tables h) further) same;
    }
changes_further_back old mid [] (reply ∷ replies) further c deep few = absurd c
changes_further_back old mid (line ∷ ls) [] further c deep few = absurd c
changes_further_back old mid (line ∷ ls) (reply ∷ replies) further (next, (r, one), c) deep few =
    let b = one_further_back old.state next.state r one.list further one.state (omega arith) few in
    let depths = b.0 in
    let long = b.1 in
    let more = changes_further_back next mid ls replies (suc further) c (omega arith) b.1 in
    let kept = more.kept in
    let place : length (line ∷ ls) + further ≡ length ls + suc further = omega arith in
    record { kept = omega arith; table = ap (λ (k : ℕ). table_at (tables mid.state) k) place ∙ more.table ∙ b.2 }

given_back : (old mid new : World) (edits undos : List (List ℕ)) (replies answers : List Reply) (further : ℕ) →
    AllLinesChange old edits replies mid → AllUndo undos → length undos ≡ length edits + further
    → length undos ≤ old.state.depth → further ≤ length old.state.past → Steps mid undos answers new →
    Reaches (table_at (tables old.state) further) mid answers new
given_back old mid new edits undos replies answers further c u e deep few s =
    let b = changes_further_back old mid edits replies further c (omega arith) few in
    let kept = b.kept in
    let back = undos_go_back mid new undos answers u (omega arith) s in
    let place : table_at (tables mid.state) (length undos) ≡ table_at (tables old.state) further =
    ap (λ (k : ℕ). table_at (tables mid.state) k) e ∙ b.table in
    subst (λ (t : List (List ℕ)). Reaches t mid answers new) place back

pub law_of_undo : LawOfUndo
law_of_undo = record { edits = edits_change; back = undos_go_back; gives_back = given_back }
