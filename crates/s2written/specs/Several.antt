-- Regions taken together.
use Rattle.std.specs.Prelude.{ℕ, ◌-◌, ◌^◌, ◌≤◌, Bool, Contains, List, min}
use Rattle.std.specs.List.{sum_by}
use Rattle.s2cover.specs.Coverings.{LiesOutside}
use Rattle.s2list.specs.Union.{LiesIn}

-- the sizes of all, of which 2^64 - 1 are the most that count
abbrev pub size_of_all : {A : Type 0} → (A → ℕ) → List A → ℕ
size_of_all size parts = min (sum_by size parts) (2 ^ 64 - 1)

-- the cell `c` lies neither outside nor inside of one of the regions, and takes no more work than all of them do in it
pub record CrossesOne {A : Type 0} (outer inner : A → ℕ → Bool) (work : A → ℕ → ℕ) (parts : List A) (c n : ℕ)
    : Type 0 where
  pub part : A
  pub one : Contains parts part
  pub not_outside : ¬ (LiesOutside (outer part) c)
  pub not_inside : ¬ (LiesIn (inner part) c)
  pub most : n ≤ sum_by (λ part. work part c) parts
