-- Redo leads ahead through the future, and takes undo back.
use Rattle.std.proofs.Common.{◌≡◌, ◌≢◌, ℕ, zero, suc, ◌+◌, ◌<◌, ◌≤◌, inl, inr, Bool, false}
use Rattle.std.proofs.Common.{List, [], ◌∷◌, ◌++◌, length, reverse, refl, sym, ap, ◌∙◌, subst}
use Rattle.std.proofs.Common.{append_assoc, arith}
use Rattle.std.proofs.lemmas.List.{reverse-append}
use Rattle.s2edit.specs.History.{History, undone, undone_to, redone, redone_to, sets, timeline}
use Rattle.s2edit.specs.Leads.{table_at}
use Rattle.s2script.specs.declared.command.Command.{Command}
use Rattle.s2script.specs.declared.command.Command.TheVariants.{Undo, Redo}
use Rattle.s2script.specs.declared.command.Parsed.TheVariants.{Does}
use Rattle.s2script.specs.Line.{line_of}
use Rattle.s2calc.specs.World.{World}
use Rattle.s2calc.specs.Replies.{Reply, is_refusal}
use Rattle.s2calc.specs.Edits.{Moves}
use Rattle.s2calc.specs.Step.{Step, StepBy}
use Rattle.s2calc.specs.Run.{Steps}
use Rattle.s2calc.specs.LawsScripts.{AllUndo, AllRedo, AllMove, IsMove, Reaches, LawOfRedo}
use Rattle.s2calc.proofs.UndoLemmas.{LeadsTo, one_refusal_less, reaches, undone_past}

-- ---- one redo

-- now and the later tables, the nearest first
abbrev later : History (List ℕ) → List (List (List ℕ))
later h = h.now ∷ h.future

redone_tables : (h : History (List ℕ)) (fs : List (List (List ℕ))) → h.future ≡ fs → fs ≢ [] → (k : ℕ) →
    table_at (later (redone_to h fs)) k ≡ table_at (later h) (suc k)
redone_tables h [] e n k = absurd (n refl)
redone_tables h (t ∷ ts) e n k = ap (λ (xs : List (List (List ℕ))). table_at xs k) (sym e)

redone_future : (h : History (List ℕ)) (fs : List (List (List ℕ))) → h.future ≡ fs → fs ≢ [] →
    length (redone_to h fs).future + 1 ≡ length h.future
redone_future h [] e n = absurd (n refl)
redone_future h (t ∷ ts) e n = omega (arith, ap length e)

-- what a redo does that is not refused
record Redone (old : World) (reply : Reply) (new : World) : Type 0 where
  answered : is_refusal reply ≡ false
  state : new.state ≡ redone old.state
  some : old.state.future ≢ []
  files : new.files ≡ old.files

moves_ahead : (old new : World) (reply : Reply) →
    Moves old.state.future old.state (redone old.state) (redone (sets old.state)) reply new.state →
    new.files ≡ old.files → 0 < length old.state.future → Redone old reply new
moves_ahead old new reply (inl h) f some = record { answered = ap is_refusal h.3; state = h.1; some = h.0; files = f }
moves_ahead old new reply (inr h) f some = absurd (omega (arith, ap length h.0))

redo_line : (old new : World) (line : List ℕ) (reply : Reply) → line_of line ≡ Does Redo →
    Step old line reply new → 0 < length old.state.future → Redone old reply new
redo_line old new line reply e s some =
    let by : StepBy (Does Redo) old reply new = subst (λ p. StepBy p old reply new) e s.by in
    moves_ahead old new reply by.0 by.1 some

-- ---- redo after redo

redos_lead : (old new : World) (ls : List (List ℕ)) (replies : List Reply) → AllRedo ls →
    length ls ≤ length old.state.future → Steps old ls replies new
    → LeadsTo (table_at (later old.state) (length ls)) old replies new
redos_lead old new [] [] u few s = record {
  none_refused = refl;
  now = ap (λ (w : World). w.state.now) s;
  files = ap (λ (w : World). w.files) s;
}
redos_lead old new [] (reply ∷ replies) u few s = absurd s
redos_lead old new (line ∷ ls) [] u few s = absurd s
redos_lead old new (line ∷ ls) (reply ∷ replies) u few (mid, s, t) =
    let one = redo_line old mid line reply u.0 s (omega arith) in
    let shorter : length mid.state.future + 1 ≡ length old.state.future =
    ap (λ (h : History (List ℕ)). length h.future + 1) one.state
    ∙ redone_future old.state old.state.future refl one.some in
    let more = redos_lead mid new ls replies u.1 (omega arith) t in
    let place : table_at (later mid.state) (length ls) ≡ table_at (later old.state) (suc (length ls)) =
    ap (λ (h : History (List ℕ)). table_at (later h) (length ls)) one.state
    ∙ redone_tables old.state old.state.future refl one.some (length ls) in
    record {
      none_refused = one_refusal_less reply replies one.answered ∙ more.none_refused;
      now = more.now ∙ place;
      files = more.files ∙ one.files;
    }

redos_go_ahead : (old new : World) (ls : List (List ℕ)) (replies : List Reply) → AllRedo ls →
    length ls ≤ length old.state.future → Steps old ls replies new
    → Reaches (table_at (later old.state) (length ls)) old replies new
redos_go_ahead old new ls replies u few s = reaches _ old new replies (redos_lead old new ls replies u few s)

-- ---- undos and redos, refused or not

-- a line led to this state, and changed no file
record LedTo (state : History (List ℕ)) (old new : World) : Type 0 where
  state_is : new.state ≡ state
  files : new.files ≡ old.files

move_state : (move : History (List ℕ) → List (List (List ℕ)) → History (List ℕ)) (side : List (List (List ℕ)))
    (old new : History (List ℕ)) (moved_sets : History (ℕ → Bool)) (reply : Reply) → move old [] ≡ old →
    Moves side old (move old side) moved_sets reply new → new ≡ move old side
move_state move side old new moved_sets reply e (inl h) = h.1
move_state move side old new moved_sets reply e (inr h) = h.1 ∙ sym e ∙ ap (move old) (sym h.0)

undo_moves : (old new : World) (line : List ℕ) (reply : Reply) → line_of line ≡ Does Undo →
    Step old line reply new → LedTo (undone old.state) old new
undo_moves old new line reply e s =
    let by : StepBy (Does Undo) old reply new = subst (λ p. StepBy p old reply new) e s.by in
    record {
      state_is = move_state undone_to old.state.past old.state new.state (undone (sets old.state)) reply refl by.0;
      files = by.1;
    }

redo_moves : (old new : World) (line : List ℕ) (reply : Reply) → line_of line ≡ Does Redo →
    Step old line reply new → LedTo (redone old.state) old new
redo_moves old new line reply e s =
    let by : StepBy (Does Redo) old reply new = subst (λ p. StepBy p old reply new) e s.by in
    record {
      state_is = move_state redone_to old.state.future old.state new.state (redone (sets old.state)) reply refl by.0;
      files = by.1;
    }

-- ---- as many redos as undos

-- n steps back
abbrev back : ℕ → History (List ℕ) → History (List ℕ)
back zero h = h
back (suc n) h = back n (undone h)

-- n steps ahead
abbrev ahead : ℕ → History (List ℕ) → History (List ℕ)
ahead zero h = h
ahead (suc n) h = ahead n (redone h)

undos_move : (old new : World) (ls : List (List ℕ)) (replies : List Reply) → AllUndo ls → Steps old ls replies new
    → LedTo (back (length ls) old.state) old new
undos_move old new [] [] u s =
    record { state_is = ap (λ (w : World). w.state) s; files = ap (λ (w : World). w.files) s }
undos_move old new [] (reply ∷ replies) u s = absurd s
undos_move old new (line ∷ ls) [] u s = absurd s
undos_move old new (line ∷ ls) (reply ∷ replies) u (mid, s, t) =
    let one = undo_moves old mid line reply u.0 s in
    let more = undos_move mid new ls replies u.1 t in
    record { state_is = more.state_is ∙ ap (back (length ls)) one.state_is; files = more.files ∙ one.files }

redos_move : (old new : World) (ls : List (List ℕ)) (replies : List Reply) → AllRedo ls → Steps old ls replies new
    → LedTo (ahead (length ls) old.state) old new
redos_move old new [] [] u s =
    record { state_is = ap (λ (w : World). w.state) s; files = ap (λ (w : World). w.files) s }
redos_move old new [] (reply ∷ replies) u s = absurd s
redos_move old new (line ∷ ls) [] u s = absurd s
redos_move old new (line ∷ ls) (reply ∷ replies) u (mid, s, t) =
    let one = redo_moves old mid line reply u.0 s in
    let more = redos_move mid new ls replies u.1 t in
    record { state_is = more.state_is ∙ ap (ahead (length ls)) one.state_is; files = more.files ∙ one.files }

ahead_last : (n : ℕ) (h : History (List ℕ)) → ahead (suc n) h ≡ redone (ahead n h)
ahead_last zero h = refl
ahead_last (suc n) h = ahead_last n (redone h)

redone_undone : (h : History (List ℕ)) (ps : List (List (List ℕ))) → h.past ≡ ps → ps ≢ [] →
    redone (undone_to h ps) ≡ h
redone_undone h [] e n = absurd (n refl)
redone_undone h (t ∷ ts) e n = ap (λ (qs : List (List (List ℕ))). record h { past = qs }) (sym e)

there_and_back : (n : ℕ) (h : History (List ℕ)) → n ≤ length h.past → ahead n (back n h) ≡ h
there_and_back zero h few = refl
there_and_back (suc n) h few =
    let some : h.past ≢ [] = λ e. omega (arith, ap length e) in
    let shorter = undone_past h h.past refl some in
    ahead_last n (back n (undone h)) ∙ ap redone (there_and_back n (undone h) (omega arith))
    ∙ redone_undone h h.past refl some

taken_back : (old mid new : World) (undos redos : List (List ℕ)) (replies answers : List Reply) →
    AllUndo undos → AllRedo redos → length redos ≡ length undos → length undos ≤ length old.state.past →
    Steps old undos replies mid → Steps mid redos answers new
    → (new.state ≡ old.state) × (new.files ≡ old.files)
taken_back old mid new undos redos replies answers u r e few s t =
    let one = undos_move old mid undos replies u s in
    let other = redos_move mid new redos answers r t in (
      other.state_is ∙ ap (ahead (length redos)) one.state_is
          ∙ ap (λ n. ahead n (back (length undos) old.state)) e ∙ there_and_back (length undos) old.state few,
      other.files ∙ one.files,
    )

-- ---- the tables, in their order of time

reversed_first : (t : List (List ℕ)) (ts us : List (List (List ℕ))) →
    reverse (t ∷ ts) ++ us ≡ reverse ts ++ t ∷ us
reversed_first t ts us =
    ap (λ (xs : List (List (List ℕ))). xs ++ us) (reverse-append (t ∷ []) ts)
    ∙ append_assoc (reverse ts) (t ∷ []) us

undo_stays : (h : History (List ℕ)) (ps : List (List (List ℕ))) → h.past ≡ ps →
    timeline (undone_to h ps) ≡ timeline h
undo_stays h [] e = refl
undo_stays h (t ∷ ps) e = sym (ap (λ (qs : List (List (List ℕ))). reverse qs ++ h.now ∷ h.future) e
    ∙ reversed_first t ps (h.now ∷ h.future))

redo_stays : (h : History (List ℕ)) (fs : List (List (List ℕ))) → h.future ≡ fs →
    timeline (redone_to h fs) ≡ timeline h
redo_stays h [] e = refl
redo_stays h (t ∷ fs) e = reversed_first h.now h.past (t ∷ fs)
    ∙ ap (λ (gs : List (List (List ℕ))). reverse h.past ++ h.now ∷ gs) (sym e)

-- the tables and the files are as they were
record Stay (old new : World) : Type 0 where
  tables : timeline new.state ≡ timeline old.state
  files : new.files ≡ old.files

one_stays : (old new : World) (line : List ℕ) (reply : Reply) (command : Command) → IsMove command →
    line_of line ≡ Does command → Step old line reply new → Stay old new
one_stays old new line reply command (inl m) e s =
    let one = undo_moves old new line reply (e ∙ ap Does m) s in
    record { tables = ap timeline one.state_is ∙ undo_stays old.state old.state.past refl; files = one.files }
one_stays old new line reply command (inr m) e s =
    let one = redo_moves old new line reply (e ∙ ap Does m) s in
    record { tables = ap timeline one.state_is ∙ redo_stays old.state old.state.future refl; files = one.files }

all_stay : (old new : World) (ls : List (List ℕ)) (replies : List Reply) → AllMove ls → Steps old ls replies new
    → (timeline new.state ≡ timeline old.state) × (new.files ≡ old.files)
all_stay old new [] [] m s = (ap (λ (w : World). timeline w.state) s, ap (λ (w : World). w.files) s)
all_stay old new [] (reply ∷ replies) m s = absurd s
all_stay old new (line ∷ ls) [] m s = absurd s
all_stay old new (line ∷ ls) (reply ∷ replies) m (mid, s, t) =
    let one = one_stays old mid line reply m.0.0 m.0.1 m.0.2 s in
    let more = all_stay mid new ls replies m.1 t in
    (more.0 ∙ one.tables, more.1 ∙ one.files)

pub law_of_redo : LawOfRedo
law_of_redo = record { ahead = redos_go_ahead; takes_back = taken_back; stays = all_stay }
