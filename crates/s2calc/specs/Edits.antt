-- What an edit does to a register.
use Rattle.std.specs.Prelude.{◌≡◌, ◌≢◌, ℕ, ◌+◌, ◌<◌, ◌⊎◌, ◌&&◌, Bool, false, List, [], length}
use Rattle.std.specs.Prelude.{Option, Some, None}
use Rattle.s2cell.specs.Cell.{first_leaf, size_of}
use Rattle.s2cell.specs.Rectangles.{Rect, rect_set}
use Rattle.s2list.specs.Union.{has_leaf, between, IsNormalForm}
use Rattle.s2list.specs.Sets.{union_of, intersection_of, difference_of}
use Rattle.s2cover.specs.Coverings.{outer_set, inner_set}
use Rattle.s2edit.specs.History.{History, sets, numbers}
use Rattle.s2edit.specs.Named.{Becomes}
use Rattle.s2edit.specs.Leads.{list_at}
use Rattle.s2script.specs.declared.command.RegisterEdit.{RegisterEdit}
use Rattle.s2script.specs.declared.command.RegisterEdit.TheVariants.{Add, Remove, Keep, Clear, Copy}
use Rattle.s2script.specs.declared.command.RegisterEdit.TheVariants.{Union, Intersect, Subtract}
use Rattle.s2script.specs.declared.command.RegisterEdit.TheVariants.{Range, Outer, Inner, OuterOf, InnerOf}
use Rattle.s2calc.specs.declared.refusal.Refusal.TheVariants.{TooMany, Memory, Nothing}
use Rattle.s2calc.specs.Replies.{Reply, Says, Refuses}
use Rattle.s2calc.specs.Texts.{ok_line}

-- the leaves of a register
abbrev pub leaves_of : List (List ℕ) → ℕ → ℕ → Bool
leaves_of table r = has_leaf (list_at table r)

-- the empty set of leaves
abbrev pub no_leaf : ℕ → Bool
no_leaf x = false

-- the leaves of S in the rectangle, if there is one; else all leaves of S
abbrev pub within : Option Rect → (ℕ → Bool) → ℕ → Bool
within None S = S
within (Some rect) S = λ x. S x && rect_set rect x

-- the new set of leaves of the register r after the edit
abbrev pub new_set : List (List ℕ) → ℕ → RegisterEdit → ℕ → Bool
new_set table r (Add cells) = union_of (leaves_of table r) (has_leaf cells)
new_set table r (Remove cells) = difference_of (leaves_of table r) (has_leaf cells)
new_set table r (Keep cells) = intersection_of (leaves_of table r) (has_leaf cells)
new_set table r Clear = no_leaf
new_set table r (Copy s) = leaves_of table s
new_set table r (Union s) = union_of (leaves_of table r) (leaves_of table s)
new_set table r (Intersect s) = intersection_of (leaves_of table r) (leaves_of table s)
new_set table r (Subtract s) = difference_of (leaves_of table r) (leaves_of table s)
new_set table r (Range span) = between (first_leaf span.first) (first_leaf span.last + size_of span.last)
new_set table r (Outer level rect) = outer_set (rect_set rect) level
new_set table r (Inner level rect) = inner_set (rect_set rect) level
new_set table r (OuterOf s level rect) = outer_set (within rect (leaves_of table s)) level
new_set table r (InnerOf s level rect) = inner_set (within rect (leaves_of table s)) level

-- the reply is the numbers of cells that were taken out and put in
abbrev pub SaysNumbers : History (List ℕ) → Reply → History (List ℕ) → Type 0
SaysNumbers old reply new = reply ≡ Says (ok_line (numbers old.now new.now).0 (numbers old.now new.now).1)

-- S has a normal form, and it has more than `limit` cells
pub record IsTooLong (S : ℕ → Bool) (limit : ℕ) : Type 0 where
  pub list : List ℕ
  pub normal : IsNormalForm S list
  pub above : limit < length list

-- the register r gets the leaves of S, and the reply is the numbers of cells; or their normal form has too many cells;
-- or there is no memory
abbrev pub Gets : (ℕ → Bool) → ℕ → History (List ℕ) → Reply → History (List ℕ) → Type 0
Gets S r old reply new =
    (Becomes S r old new × SaysNumbers old reply new)
    ⊎ ((reply ≡ Refuses TooMany) × IsTooLong S old.limit × (new ≡ old))
    ⊎ ((reply ≡ Refuses Memory) × (new ≡ old))

-- the history moves to another state, list for list and set for set, and the reply is the numbers of cells; or there is
-- no state to move to
abbrev pub Moves : List (List (List ℕ)) → History (List ℕ) → History (List ℕ) → History (ℕ → Bool) → Reply →
    History (List ℕ) → Type 0
Moves side old moved moved_sets reply new =
    ((side ≢ []) × (new ≡ moved) × (sets new ≡ moved_sets) × SaysNumbers old reply new)
    ⊎ ((side ≡ []) × (new ≡ old) × (reply ≡ Refuses Nothing))
