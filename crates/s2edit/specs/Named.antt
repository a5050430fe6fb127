-- What an edit by named cells does.
use Rattle.std.specs.Prelude.{ℕ, ◌≤◌, Bool, List, length}
use Rattle.s2list.specs.Union.{has_leaf, IsNormalForm}
use Rattle.s2edit.specs.History.{History, Assigned, sets}

-- the register is assigned the normal form of S, which has at most `limit` cells, list for list and set for set
pub record Becomes (S : ℕ → Bool) (r : ℕ) (old new : History (List ℕ)) : Type 0 where
  pub list : List ℕ
  pub normal : IsNormalForm S list
  pub within : length list ≤ old.limit
  pub state : Assigned old r list new
  pub state_sets : Assigned (sets old) r (has_leaf list) (sets new)
