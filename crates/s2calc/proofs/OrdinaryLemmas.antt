-- The states of a script keep to their limit and depth, and their lists are normalized.
use Rattle.std.proofs.Common.{◌≡◌, ℕ, zero, suc, ◌+◌, ◌≤◌, inl, inr, ⊎_elim, Bool, List, [], ◌∷◌, length, take}
use Rattle.std.proofs.Common.{replicate, slice_set, refl, sym, ap, ◌∙◌, subst, arith}
use Rattle.std.proofs.lemmas.List.{length-take}
use Rattle.s2list.specs.Union.{IsLocal}
use Rattle.s2list.proofs.Normal.{local_from_normal}
use Rattle.s2edit.specs.declared.TheConstants.{SESSION_CELLS}
use Rattle.s2file.specs.declared.union_file.TheConstants.{MOST_FILE}
use Rattle.s2edit.specs.Chain.{IsLocalWithin}
use Rattle.s2edit.specs.History.{History, changed, undone, undone_to, redone, redone_to, untouched, AllLists}
use Rattle.s2edit.specs.History.{AllTables, EachList}
use Rattle.s2edit.specs.Leads.{list_at}
use Rattle.s2session.specs.Session.{Stored}
use Rattle.s2edit.specs.Session.{Restored}
use Rattle.s2edit.proofs.OneEnd.{is_there}
use Rattle.s2script.specs.declared.register.TheConstants.{REGISTERS}
use Rattle.s2script.specs.Line.{line_of}
use Rattle.s2script.specs.declared.command.Command.{Command}
use Rattle.s2script.specs.declared.command.Command.TheVariants.{Edit, Load, Save, Dump, Restore, Undo, Redo, Ask}
use Rattle.s2script.specs.declared.command.Parsed.{Parsed}
use Rattle.s2script.specs.declared.command.Parsed.TheVariants.{Nothing, Does, Fails}
use Rattle.s2calc.specs.World.{World}
use Rattle.s2calc.specs.Replies.{Reply}
use Rattle.s2calc.specs.Edits.{Gets, Moves}
use Rattle.s2calc.specs.Step.{WritesFile, Loads, Restores, Acts, StepBy}
use Rattle.s2calc.specs.LawsStored.{IsOrdinary, KeepsOrdinary}

-- ---- each list

module _ (P : List ℕ → Type 0) where
  lists_set : (t : List (List ℕ)) (r : ℕ) (x : List ℕ) → AllLists P t → P x → AllLists P (slice_set t r x)
  lists_set [] r x a p = tt
  lists_set (u ∷ t) zero x a p = (p, a.1)
  lists_set (u ∷ t) (suc r) x a p = (a.0, lists_set t r x a.1 p)

  tables_take : (n : ℕ) (ts : List (List (List ℕ))) → AllTables P ts → AllTables P (take n ts)
  tables_take zero ts a = tt
  tables_take (suc n) [] a = tt
  tables_take (suc n) (t ∷ ts) a = (a.0, tables_take n ts a.1)

  each_changed : (h : History (List ℕ)) (r : ℕ) (x : List ℕ) → EachList P h → P x → EachList P (changed h r x)
  each_changed h r x a p = record {
    past = tables_take h.depth (h.now ∷ h.past) (a.now, a.past);
    now = lists_set h.now r x a.now p;
    future = tt;
  }

  each_undone : (h : History (List ℕ)) (ps : List (List (List ℕ))) → EachList P h → AllTables P ps →
      EachList P (undone_to h ps)
  each_undone h [] a l = a
  each_undone h (t ∷ ps) a l = record { past = l.1; now = l.0; future = (a.now, a.future) }

  each_redone : (h : History (List ℕ)) (fs : List (List (List ℕ))) → EachList P h → AllTables P fs →
      EachList P (redone_to h fs)
  each_redone h [] a l = a
  each_redone h (t ∷ fs) a l = record { past = (a.now, a.past); now = l.0; future = l.1 }

-- ---- how many states

changed_few : (h : History (List ℕ)) → length (take h.depth (h.now ∷ h.past)) + 0 ≤ h.depth
changed_few h = omega (arith, length-take h.depth (h.now ∷ h.past))

undone_few : (h : History (List ℕ)) (ps : List (List (List ℕ))) → h.past ≡ ps →
    length h.past + length h.future ≤ h.depth → length (undone_to h ps).past + length (undone_to h ps).future ≤ h.depth
undone_few h [] e few = few
undone_few h (t ∷ ps) e few = omega (arith, few, ap length e)

redone_few : (h : History (List ℕ)) (fs : List (List (List ℕ))) → h.future ≡ fs →
    length h.past + length h.future ≤ h.depth → length (redone_to h fs).past + length (redone_to h fs).future ≤ h.depth
redone_few h [] e few = few
redone_few h (t ∷ fs) e few = omega (arith, few, ap length e)

-- ---- a line

-- an ordinary state, with the limit and depth of the one before
abbrev Follows : History (List ℕ) → History (List ℕ) → Type 0
Follows old new = IsOrdinary new × (new.limit ≡ old.limit) × (new.depth ≡ old.depth)

stays : (old new : History (List ℕ)) → IsOrdinary old → new ≡ old → Follows old new
stays old new o e = subst (λ (h : History (List ℕ)). Follows old h) (sym e) (o, refl, refl)

changes : (old : History (List ℕ)) (r : ℕ) (u : List ℕ) → IsOrdinary old → IsLocal u → length u ≤ old.limit →
    Follows old (changed old r u)
changes old r u o local few = (
  record {
    local = each_changed IsLocal old r u o.local local;
    kept = record {
      few = each_changed (λ v. length v ≤ old.limit) old r u o.kept.few few;
      kept = changed_few old;
    };
  },
  refl,
  refl,
)

gets_follows : (S : ℕ → Bool) (r : ℕ) (old new : History (List ℕ)) (reply : Reply) → IsOrdinary old →
    Gets S r old reply new → Follows old new
gets_follows S r old new reply o (inl (becomes, says)) =
    let u = becomes.list in
    ⊎_elim (λ e. stays old new o (becomes.state.same e))
    (λ n. subst (λ (h : History (List ℕ)). Follows old h) (sym (becomes.state.differs n))
    (changes old r u o (local_from_normal S u becomes.normal) becomes.within))
    (is_there old.now r u)
gets_follows S r old new reply o (inr (inl h)) = stays old new o h.2
gets_follows S r old new reply o (inr (inr h)) = stays old new o h.1

undone_follows : (old : History (List ℕ)) (ps : List (List (List ℕ))) → old.past ≡ ps → IsOrdinary old →
    Follows old (undone_to old ps)
undone_follows old [] e o = (o, refl, refl)
undone_follows old (t ∷ ps) e o = (
  record {
    local = each_undone IsLocal old (t ∷ ps) o.local (subst (AllTables IsLocal) e o.local.past);
    kept = record {
      few = each_undone (λ v. length v ≤ old.limit) old (t ∷ ps) o.kept.few
          (subst (AllTables (λ v. length v ≤ old.limit)) e o.kept.few.past);
      kept = undone_few old (t ∷ ps) e o.kept.kept;
    };
  },
  refl,
  refl,
)

redone_follows : (old : History (List ℕ)) (fs : List (List (List ℕ))) → old.future ≡ fs → IsOrdinary old →
    Follows old (redone_to old fs)
redone_follows old [] e o = (o, refl, refl)
redone_follows old (t ∷ fs) e o = (
  record {
    local = each_redone IsLocal old (t ∷ fs) o.local (subst (AllTables IsLocal) e o.local.future);
    kept = record {
      few = each_redone (λ v. length v ≤ old.limit) old (t ∷ fs) o.kept.few
          (subst (AllTables (λ v. length v ≤ old.limit)) e o.kept.few.future);
      kept = redone_few old (t ∷ fs) e o.kept.kept;
    };
  },
  refl,
  refl,
)

moves_follow : (side : List (List (List ℕ))) (old moved new : History (List ℕ)) (ms : History (ℕ → Bool))
    (reply : Reply) → IsOrdinary old → Follows old moved → Moves side old moved ms reply new → Follows old new
moves_follow side old moved new ms reply o f (inl (some, is, are, says)) =
    subst (λ (h : History (List ℕ)). Follows old h) (sym is) f
moves_follow side old moved new ms reply o f (inr (none, is, says)) = stays old new o is

local_lists : (t : List (List ℕ)) → AllLists (IsLocalWithin SESSION_CELLS) t → AllLists IsLocal t
local_lists [] a = tt
local_lists (u ∷ t) a = (a.0.local, local_lists t a.1)

local_tables : (ts : List (List (List ℕ))) → AllTables (IsLocalWithin SESSION_CELLS) ts → AllTables IsLocal ts
local_tables [] a = tt
local_tables (t ∷ ts) a = (local_lists t a.0, local_tables ts a.1)

restored_follows : (bytes : List ℕ) (old new : History (List ℕ)) → Restored (Stored bytes) old new → Follows old new
restored_follows bytes old new r =
    let lists = r.tells.tells.lists in (
      record {
        local = record {
          past = local_tables new.past lists.past;
          now = local_lists new.now lists.now;
          future = local_tables new.future lists.future;
        };
        kept = r.kept;
      },
      r.limit,
      r.depth,
    )

loads_follow : (r : ℕ) (name : List ℕ) (old new : World) (reply : Reply) → IsOrdinary old.state →
    Loads r name old reply new → Follows old.state new.state
loads_follow r name old new reply o (inl (S, fetched, gets)) = gets_follows S r old.state new.state reply o gets
loads_follow r name old new reply o (inr (refusal, none, answer, same)) = stays old.state new.state o same

writes_follow : (AreThose : List ℕ → Type 0) (name : List ℕ) (old new : World) (reply : Reply) →
    IsOrdinary old.state → WritesFile AreThose name old reply new → Follows old.state new.state
writes_follow AreThose name old new reply o h = stays old.state new.state o h.0

restores_follow : (name : List ℕ) (old new : World) (reply : Reply) → IsOrdinary old.state →
    Restores name old reply new → Follows old.state new.state
restores_follow name old new reply o (inl (bytes, found, restored, answer)) =
    restored_follows bytes old.state new.state restored
restores_follow name old new reply o (inr (refusal, none, answer, same)) = stays old.state new.state o same

acts_follow : (command : Command) (old new : World) (reply : Reply) → IsOrdinary old.state →
    Acts command old reply new → Follows old.state new.state
acts_follow (Edit r edit) old new reply o a = gets_follows _ r old.state new.state reply o a.0
acts_follow (Load r name) old new reply o a = loads_follow r name old new reply o a
acts_follow (Save r name) old new reply o a = writes_follow _ name old new reply o a
acts_follow (Dump name) old new reply o a = writes_follow _ name old new reply o a
acts_follow (Restore name) old new reply o a = restores_follow name old new reply o a
acts_follow Undo old new reply o a =
    moves_follow old.state.past old.state (undone old.state) new.state _ reply o
    (undone_follows old.state old.state.past refl o) a.0
acts_follow Redo old new reply o a =
    moves_follow old.state.future old.state (redone old.state) new.state _ reply o
    (redone_follows old.state old.state.future refl o) a.0
acts_follow (Ask question) old new reply o a =
    stays old.state new.state o (ap (λ (w : World). w.state) a.1)

line_follows : (parsed : Parsed) (old new : World) (reply : Reply) → IsOrdinary old.state →
    StepBy parsed old reply new → Follows old.state new.state
line_follows Nothing old new reply o s = stays old.state new.state o (ap (λ (w : World). w.state) s.1)
line_follows (Fails refusal) old new reply o s = stays old.state new.state o (ap (λ (w : World). w.state) s.1)
line_follows (Does command) old new reply o s = acts_follow command old new reply o s

-- ---- lines

pub keeps_ordinary : KeepsOrdinary
keeps_ordinary old new [] [] s o = stays old.state new.state o (ap (λ (w : World). w.state) s)
keeps_ordinary old new [] (reply ∷ replies) s o = absurd s
keeps_ordinary old new (line ∷ ls) [] s o = absurd s
keeps_ordinary old new (line ∷ ls) (reply ∷ replies) (mid, step, steps) o =
    let one = line_follows (line_of line) old mid reply o step.by in
    let more = keeps_ordinary mid new ls replies steps one.0 in
    (more.0, more.1 ∙ one.1, more.2 ∙ one.2)

-- ---- a new editor

none_local : IsLocal []
none_local = record {
  cells = λ i other h. absurd (omega arith);
  ascending = λ i h. absurd (omega arith);
  apart = λ i j other h l. absurd (omega arith);
  unmerged = λ p cell level all. let (at, below, is) = all 0 (omega arith) in absurd (omega arith);
}

all_none : (P : List ℕ → Type 0) (n : ℕ) → P [] → AllLists P (replicate n [])
all_none P zero p = tt
all_none P (suc n) p = (p, all_none P n p)

pub new_ordinary : (limit depth : ℕ) → IsOrdinary (untouched limit depth (replicate REGISTERS []))
new_ordinary limit depth = record {
  local = record { past = tt; now = all_none IsLocal REGISTERS none_local; future = tt };
  kept = record {
    few = record { past = tt; now = all_none (λ u. length u ≤ limit) REGISTERS (omega arith); future = tt };
    kept = omega arith;
  };
}

-- ---- a register

list_has : (P : List ℕ → Type 0) (t : List (List ℕ)) (r : ℕ) → AllLists P t → P [] → P (list_at t r)
list_has P [] r a p = p
list_has P (u ∷ t) zero a p = a.0
list_has P (u ∷ t) (suc r) a p = list_has P t r a.1 p

pub fits_file : (h : History (List ℕ)) (r : ℕ) → IsOrdinary h → h.limit ≤ MOST_FILE →
    IsLocalWithin MOST_FILE (list_at h.now r)
fits_file h r o few =
    let short = list_has (λ u. length u ≤ h.limit) h.now r o.kept.few.now (omega arith) in
    record { local = list_has IsLocal h.now r o.local.now none_local; few = omega (arith, short, few) }
