-- A search for a covering of few cells, level by level. `o` and `i` are what is so of leaves that lie outside and
-- inside, and `cr` of cells that cross and the work that they take.
use Rattle.std.specs.Prelude.{◌≡◌, ℕ, ◌+◌, ◌<◌, ◌≤◌, ◌⊎◌, Bool, true, false, ◌||◌, cond, nat_eq, List, All, Contains}
use Rattle.std.specs.Prelude.{map, max, length}
use Rattle.std.specs.List.{list_any, sum_by}
use Rattle.s2cell.specs.Cell.{IsCell, level_of, covers}
use Rattle.s2cell.specs.declared.TheConstants.{LEAVES}
use Rattle.s2list.specs.Union.{ShareNone, has_leaf}
use Rattle.s2cover.specs.Near.{looked_into}
use Rattle.s2cover.specs.Rough.{AreCrossing, EachLeaf, IsCrossing, IsLeft, IsMuchCrossing}

-- whether the cell of some item of `items` covers the leaf `x`
abbrev pub any_covers : {A : Type 0} → (A → ℕ) → List A → ℕ → Bool
any_covers cell items x = list_any (λ item. covers (cell item) x) items

-- the cells of how many items of `items` cover the leaf `x`
abbrev pub times_by : {A : Type 0} → (A → ℕ) → List A → ℕ → ℕ
times_by cell items x = sum_by (λ item. cond (covers (cell item) x) 1 0) items

-- how many of the cells `u` cover the leaf `x`
abbrev pub times : List ℕ → ℕ → ℕ
times u x = times_by (λ c. c) u x

-- how often the cell `c` is listed
abbrev pub listed : List ℕ → ℕ → ℕ
listed u c = sum_by (λ d. cond (nat_eq d c) 1 0) u

-- `c` is the cell of one of the items
abbrev pub IsCellOf : {A : Type 0} → (A → ℕ) → List A → ℕ → Type 0
IsCellOf {A} cell items c = (item : A) × Contains items item × (c ≡ cell item)

-- the cell `c` of level `k` lies inside
pub record IsInside (i : ℕ → Type 0) (cr : ℕ → ℕ → Type 0) (k c : ℕ) : Type 0 where
  pub cell : IsCell c
  pub level : level_of c ≡ k
  pub lies : EachLeaf i c
  pub around : AreCrossing cr c

-- what is known in a cell of level `k` that crosses
pub record IsAcross {A : Type 0} (id : A → ℕ) (sound : A → Type 0) (work : A → ℕ) (cr : ℕ → ℕ → Type 0) (k : ℕ)
    (q : A) : Type 0 where
  pub right : sound q
  pub cell : IsCell (id q)
  pub level : level_of (id q) ≡ k
  pub crosses : cr (id q) (work q)
  pub around : AreCrossing cr (id q)

-- a cell that crosses, and its children of level `k` that don't lie outside, which have the cell's leaves but those
-- outside
pub record IsFamily {A : Type 0} (id : A → ℕ) (sound : A → Type 0) (work : A → ℕ) (o i : ℕ → Type 0)
    (cr : ℕ → ℕ → Type 0) (k cell : ℕ) (inside : List ℕ) (across : List A) : Type 0 where
  pub level : level_of cell + 1 ≡ k
  pub crosses : IsCrossing cr cell
  pub around : AreCrossing cr cell
  pub leaves : (x : ℕ) → covers cell x ≡ true → ((has_leaf inside x || any_covers id across x) ≡ true) ⊎ o x
  pub once : (x : ℕ) → times inside x + times_by id across x ≤ cond (covers cell x) 1 0
  pub inside_are : All (IsInside i cr k) inside
  pub across_are : All (IsAcross id sound work cr k) across

-- a cell that the outer covering may have if `whole`, else the inner one
pub record IsKept (whole : Bool) (i : ℕ → Type 0) (cr : ℕ → ℕ → Type 0) (deepest c : ℕ) : Type 0 where
  pub cell : IsCell c
  pub level : level_of c ≤ deepest
  pub around : AreCrossing cr c
  pub lies : EachLeaf i c ⊎ ((whole ≡ true) × IsCrossing cr c)

-- how many cells are kept, may be split, and wait. The outer covering, if `whole`, has all of them, and the inner one
-- those that are kept
pub record Sizes (whole : Bool) (most waiting kept ahead : ℕ) : Type 0 where
  pub few : whole ≡ true → (kept + ahead) + waiting ≤ max most 6
  pub less : whole ≡ false → kept ≤ most
  pub small : (kept ≤ max most 6) × (ahead ≤ looked_into most) × (waiting ≤ looked_into most)

-- the cell `c` is of the level `deepest` or lies inside
abbrev pub IsFine : (ℕ → Type 0) → ℕ → ℕ → Type 0
IsFine i deepest c = (level_of c ≡ deepest) ⊎ EachLeaf i c

-- the cell `c` isn't larger than the cell `a`, or doesn't lie around it
abbrev pub IsClear : ℕ → ℕ → Type 0
IsClear c a = level_of c < level_of a → ShareNone c a

-- a cell above the level `bound` that crosses
abbrev pub IsAbove : {A : Type 0} → (A → ℕ) → (A → ℕ) → (ℕ → ℕ → Type 0) → ℕ → A → Type 0
IsAbove id work cr bound a = IsCell (id a) × cr (id a) (work a) × (level_of (id a) < bound)

-- the cells that are kept, the quadrants of level `k` that may be split, and the cells `rest` that wait. The quadrants
-- `spent`, above the level `bound`, are those whose work was counted. The cells `gone` crossed, but their leaves lie
-- outside
pub record Front {A : Type 0} (id : A → ℕ) (sound : A → Type 0) (work : A → ℕ) (o i : ℕ → Type 0)
    (cr : ℕ → ℕ → Type 0) (whole : Bool) (allowed most deepest k bound : ℕ) (spent : List A) (rest kept : List ℕ)
    (ahead : List A) : Type 0 where
  pub gone : List ℕ
  pub deep : k ≤ deepest
  pub kept_are : All (IsKept whole i cr deepest) kept
  pub ahead_are : All (IsAcross id sound work cr k) ahead
  pub gone_are : All (λ c. IsCrossing cr c × EachLeaf o c) gone
  pub once : (x : ℕ) → ((times kept x + times_by id ahead x) + times rest x) + times gone x ≤ 1
  pub leaves : whole ≡ true → (x : ℕ) → x < LEAVES →
      (((has_leaf kept x || any_covers id ahead x) || has_leaf rest x) ≡ true) ⊎ o x
  pub spent_are : All (IsAbove id work cr bound) spent
  pub spent_once : (c : ℕ) → listed (map id spent) c ≤ 1
  pub clear : All (λ c. All (λ a. IsClear c (id a)) spent) kept
  pub near : whole ≡ true → All (IsFine i deepest) kept
      ⊎ (most ≤ (((length kept + length ahead) + length rest) + length gone) + 2) ⊎ (allowed < sum_by work spent)
  pub filled : whole ≡ false → (j : ℕ) → j ≤ k →
      ((x : ℕ) → x < LEAVES → ((has_leaf kept x || has_leaf rest x) ≡ true) ⊎ IsLeft o cr j x)
      ⊎ (most ≤ length kept) ⊎ IsMuchCrossing cr (looked_into most) allowed j
  pub looked : whole ≡ false →
      ((x : ℕ) → x < LEAVES → (((has_leaf kept x || any_covers id ahead x) || has_leaf rest x) ≡ true) ⊎ o x)
      ⊎ (most ≤ length kept) ⊎ IsMuchCrossing cr (looked_into most) allowed (k + 1)
