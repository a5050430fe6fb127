-- The laws of sessions.
use Rattle.std.specs.Prelude.{◌≡◌, ℕ, Bool, List}
use Rattle.s2edit.specs.Content.{Content}
use Rattle.s2session.specs.Session.{Spells, Text, Stored, StoredSets}
use Rattle.s2edit.specs.History.{History}
use Rattle.s2edit.specs.Session.{Records, IsKept, Restored, RefusesToRestore}
use Rattle.s2edit.specs.declared.session.RestoreFault.{RestoreFault}
use Rattle.s2edit.specs.declared.session.RestoreFault.TheVariants.{Memory}

-- For a given limit and depth, bytes stand for at most one history, list for list and set for set. The text of a
-- history stands for it. If an editor with the history's limit and depth restores the session that the text spells, its
-- history is that one again, and it refuses only if there is no memory.
pub record LawOfSessions : Type 0 where
  pub one_history : (bytes : List ℕ) (h k : History (List ℕ)) → Stored bytes h → Stored bytes k →
      h.limit ≡ k.limit → h.depth ≡ k.depth → h ≡ k
  pub one_history_of_sets : (bytes : List ℕ) (h k : History (ℕ → Bool)) → StoredSets bytes h → StoredSets bytes k →
      h.limit ≡ k.limit → h.depth ≡ k.depth → h ≡ k
  pub text_is_stored : (bytes : List ℕ) (h : History (List ℕ)) → Text h bytes → Stored bytes h
  pub comes_back : (bytes : List ℕ) (s : Content) (h old new : History (List ℕ)) → Text h bytes → Spells bytes s →
      old.limit ≡ h.limit → old.depth ≡ h.depth → Restored (Records s) old new → new ≡ h
  pub not_refused : (bytes : List ℕ) (s : Content) (h old : History (List ℕ)) (fault : RestoreFault) →
      Text h bytes → Spells bytes s → IsKept h →
      old.limit ≡ h.limit → old.depth ≡ h.depth → RefusesToRestore (Records s) old fault → fault ≡ Memory
