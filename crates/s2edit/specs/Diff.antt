-- What a change of one register is, and what it does.
use Rattle.std.specs.Prelude.{◌≡◌, ℕ, true, false, List}
use Rattle.std.specs.List.Sorted.{IsStrictlyIncreasing}
use Rattle.s2union.specs.Apply.{cells_without, applied, has, Fits}

-- a change of one register: the number of the register, the cells that are taken out of its list, and those that are
-- put in
pub record Diff : Type 0 where
  pub register : ℕ
  pub out : List ℕ
  pub put : List ℕ

-- no cell is in both lists
abbrev pub AreApart : List ℕ → List ℕ → Type 0
AreApart out put = (x : ℕ) → has out x ≡ true → has put x ≡ false

-- two ascending lists that share no cell
pub record IsDiff (out put : List ℕ) : Type 0 where
  pub out_ascends : IsStrictlyIncreasing out
  pub put_ascends : IsStrictlyIncreasing put
  pub apart : AreApart out put

-- the list that the change makes from `u`
abbrev pub apply : Diff → List ℕ → List ℕ
apply d u = applied d.out d.put u

-- the change can be made in `u`
abbrev pub FitsList : Diff → List ℕ → Type 0
FitsList d u = Fits d.out d.put u

-- the change that reverses this one
abbrev pub inverse : Diff → Diff
inverse d = record { register = d.register; out = d.put; put = d.out }

-- the change of a register from one list to another: the cells that the new one lacks, and those that the old one lacks
abbrev pub change_between : ℕ → List ℕ → List ℕ → Diff
change_between r u v = record { register = r; out = cells_without u v; put = cells_without v u }
