-- Bytes and the histories that they stand for.
use Rattle.std.proofs.Common.{◌≡◌, ◌≢◌, ℕ, ◌+◌, ◌≤◌, Bool, List, length, inl, refl, sym, ap, ◌∙◌, subst, arith}
use Rattle.std.proofs.Common.{Result, Ok, Err, Vec, Global}
use Rattle.std.specs.Prelude.{IfOk}
use Rattle.std.specs.declared.alloc.AllocError.{AllocError}
use Rattle.s2edit.specs.Content.{Content}
use Rattle.s2session.specs.Session.{session_text, Spells, Text, Stored, StoredSets}
use Rattle.s2session.proofs.Spelled.{one_spelled}
use Rattle.s2edit.specs.History.{History, EachList, sets}
use Rattle.s2edit.specs.Session.{Records, IsKept, Restored, IsTooDeep, IsTooMany, RefusesToRestore}
use Rattle.s2edit.specs.declared.session.RestoreFault.{RestoreFault}
use Rattle.s2edit.specs.declared.session.RestoreFault.TheVariants.{Fit, TooDeep, TooMany, Memory}
use Rattle.s2edit.proofs.Telling.{one_told}
use Rattle.s2edit.proofs.Contents.{told_content}

pub spelled_text : (bytes : List ℕ) (h : History (List ℕ)) (t : Text h bytes) → Spells bytes t.content
spelled_text bytes h t = inl (record { content = told_content t.content h t.tells; text = t.is })

-- the text of a session that tells the history
pub text_told : (r : Result (Vec ℕ Global) AllocError) (s : Content) (h : History (List ℕ)) → Records s h →
    IfOk r (λ bytes. bytes.items ≡ session_text s)
    → IfOk r (λ bytes. Text h bytes.items)
text_told (Ok bytes) s h t is = record { content = s; tells = t; is = is }
text_told (Err e) s h t is = tt

pub text_is_stored : (bytes : List ℕ) (h : History (List ℕ)) → Text h bytes → Stored bytes h
text_is_stored bytes h t = record { content = t.content; spells = spelled_text bytes h t; tells = t.tells }

pub one_history : (bytes : List ℕ) (h k : History (List ℕ)) → Stored bytes h → Stored bytes k → h.limit ≡ k.limit →
    h.depth ≡ k.depth → h ≡ k
one_history bytes h k f g e d =
    one_told g.content h k (subst (λ (s : Content). Records s h)
    (one_spelled bytes f.content g.content f.spells g.spells) f.tells) g.tells e d

pub one_history_of_sets : (bytes : List ℕ) (h k : History (ℕ → Bool)) → StoredSets bytes h → StoredSets bytes k →
    h.limit ≡ k.limit → h.depth ≡ k.depth → h ≡ k
one_history_of_sets bytes h k f g e d =
    f.are ∙ ap sets (one_history bytes f.lists g.lists f.stored g.stored
    (sym (ap (λ (x : History (ℕ → Bool)). x.limit) f.are) ∙ e ∙ ap (λ (x : History (ℕ → Bool)). x.limit) g.are)
    (sym (ap (λ (x : History (ℕ → Bool)). x.depth) f.are) ∙ d ∙ ap (λ (x : History (ℕ → Bool)). x.depth) g.are))
    ∙ sym g.are

-- what the text of a history spells tells it
tells_again : (bytes : List ℕ) (s : Content) (h : History (List ℕ)) → Text h bytes → Spells bytes s → Records s h
tells_again bytes s h t p = subst (λ (x : Content). Records x h)
    (one_spelled bytes t.content s (spelled_text bytes h t) p) t.tells

pub comes_back : (bytes : List ℕ) (s : Content) (h old new : History (List ℕ)) → Text h bytes → Spells bytes s →
    old.limit ≡ h.limit → old.depth ≡ h.depth → Restored (Records s) old new → new ≡ h
comes_back bytes s h old new t p e d r = one_told s new h r.tells (tells_again bytes s h t p) (r.limit ∙ e)
    (r.depth ∙ d)

-- ---- what bytes stand for, by what the session that they spell tells

pub stored_by : (bytes : List ℕ) (s : Content) (h : History (List ℕ)) → Spells bytes s → Records s h → Stored bytes h
stored_by bytes s h p t = record { content = s; spells = p; tells = t }

pub restores_bytes : (bytes : List ℕ) (s : Content) (old new : History (List ℕ)) → Spells bytes s →
    Restored (Records s) old new → Restored (Stored bytes) old new
restores_bytes bytes s old new p r = record {
  tells = stored_by bytes s new p r.tells;
  limit = r.limit;
  depth = r.depth;
  kept = r.kept;
}

pub refuses_bytes : (bytes : List ℕ) (s : Content) (old : History (List ℕ)) (fault : RestoreFault) → Spells bytes s →
    RefusesToRestore (Records s) old fault → RefusesToRestore (Stored bytes) old fault
refuses_bytes bytes s old Fit p r =
    λ h st. r h (subst (λ (x : Content). Records x h) (one_spelled bytes st.content s st.spells p) st.tells)
refuses_bytes bytes s old TooDeep p r =
    record { history = r.history; tells = stored_by bytes s r.history p r.tells; deep = r.deep }
refuses_bytes bytes s old TooMany p r = record {
  history = r.history;
  tells = stored_by bytes s r.history p r.tells;
  kept = r.kept;
  many = r.many;
}
refuses_bytes bytes s old Memory p r = tt

-- ---- bytes stand for one history, but for limit and depth

-- the history in an editor of another limit and depth
abbrev moved_to : History (List ℕ) → History (List ℕ) → History (List ℕ)
moved_to h k = record { limit = k.limit; depth = k.depth; past = h.past; now = h.now; future = h.future }

stored_moved : (bytes : List ℕ) (h k : History (List ℕ)) → Stored bytes h → Stored bytes (moved_to h k)
stored_moved bytes h k st = record {
  content = st.content;
  spells = st.spells;
  tells = record {
    now = st.tells.now;
    count = st.tells.count;
    past = st.tells.past;
    future = st.tells.future;
    lists = record { past = st.tells.lists.past; now = st.tells.lists.now; future = st.tells.lists.future };
    few = st.tells.few;
  };
}

one_moved : (bytes : List ℕ) (h k : History (List ℕ)) → Stored bytes h → Stored bytes k → moved_to h k ≡ k
one_moved bytes h k f g = one_history bytes (moved_to h k) k (stored_moved bytes h k f) g refl refl

abbrev places : History (List ℕ) → ℕ
places h = length h.past + length h.future

one_length : (bytes : List ℕ) (h k : History (List ℕ)) → Stored bytes h → Stored bytes k → places h ≡ places k
one_length bytes h k f g = ap places (one_moved bytes h k f g)

-- ---- one refusal

-- bytes that stand for a history which the editor may keep are refused only if there is no memory
pub fits_editor : (bytes : List ℕ) (h old : History (List ℕ)) (fault : RestoreFault) → Stored bytes h → IsKept h →
    old.limit ≡ h.limit → old.depth ≡ h.depth → RefusesToRestore (Stored bytes) old fault → fault ≡ Memory
fits_editor bytes h old Fit f k e d r = absurd (r h f)
fits_editor bytes h old TooDeep f k e d r =
    absurd (omega (arith, one_length bytes r.history h r.tells f, r.deep, k.kept, d))
fits_editor bytes h old TooMany f k e d r =
    let each : EachList (λ u. length u ≤ old.limit) h =
    subst (λ (n : ℕ). EachList (λ u. length u ≤ n) h) (sym e) k.few in
    let back : EachList (λ u. length u ≤ old.limit) (moved_to r.history h) =
    subst (EachList (λ u. length u ≤ old.limit)) (sym (one_moved bytes r.history h r.tells f)) each in
    absurd (r.many (record { past = back.past; now = back.now; future = back.future }))
fits_editor bytes h old Memory f k e d r = refl

deep_and_many : (bytes : List ℕ) (old : History (List ℕ)) → IsTooDeep (Stored bytes) old →
    IsTooMany (Stored bytes) old → ⊥
deep_and_many bytes old f g = let same = one_length bytes f.history g.history f.tells g.tells in
    absurd (omega (arith, same, f.deep, g.kept))

pub one_fault : (bytes : List ℕ) (old : History (List ℕ)) (x y : RestoreFault) →
    RefusesToRestore (Stored bytes) old x → RefusesToRestore (Stored bytes) old y → x ≢ Memory → y ≢ Memory → x ≡ y
one_fault bytes old Memory y f g p q = absurd (p refl)
one_fault bytes old Fit Memory f g p q = absurd (q refl)
one_fault bytes old TooDeep Memory f g p q = absurd (q refl)
one_fault bytes old TooMany Memory f g p q = absurd (q refl)
one_fault bytes old Fit Fit f g p q = refl
one_fault bytes old Fit TooDeep f g p q = absurd (f g.history g.tells)
one_fault bytes old Fit TooMany f g p q = absurd (f g.history g.tells)
one_fault bytes old TooDeep Fit f g p q = absurd (g f.history f.tells)
one_fault bytes old TooDeep TooDeep f g p q = refl
one_fault bytes old TooDeep TooMany f g p q = absurd (deep_and_many bytes old f g)
one_fault bytes old TooMany Fit f g p q = absurd (g f.history f.tells)
one_fault bytes old TooMany TooDeep f g p q = absurd (deep_and_many bytes old g f)
one_fault bytes old TooMany TooMany f g p q = refl

pub not_refused : (bytes : List ℕ) (s : Content) (h old : History (List ℕ)) (fault : RestoreFault) → Text h bytes →
    Spells bytes s → IsKept h →
    old.limit ≡ h.limit → old.depth ≡ h.depth → RefusesToRestore (Records s) old fault → fault ≡ Memory
not_refused bytes s h old fault t p k e d r =
    fits_editor bytes h old fault (text_is_stored bytes h t) k e d (refuses_bytes bytes s old fault p r)
