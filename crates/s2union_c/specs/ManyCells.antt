-- What is answered for many cells at once: an entry for each number of a list, at its index.
use Rattle.std.specs.Prelude.{◌≡◌, ◌-◌, ◌<◌, ◌≤◌, ◌⊎◌, ℕ, List, ◌++◌, length}
use Rattle.std.specs.Prelude.{◌^◌, slice_index_or, replicate}
use Rattle.s2cell.specs.Cell.{IsCell, first_leaf, level_of}
use Rattle.s2cell.specs.Curve.{IsPlaceOf}
use Rattle.s2cell.specs.Token.{token_of}
use Rattle.s2union_c.specs.declared.many_cells.Point.{Point}

-- the number is a cell whose level is at least `level`
abbrev pub HasParent : ℕ → ℕ → Type 0
HasParent level id = IsCell id × (level ≤ level_of id)

-- the entry is `value` if `P` holds, else `otherwise`
abbrev pub IsValueOr : {X : Type 0} → Type 0 → X → X → X → Type 0
IsValueOr P value otherwise entry = (P × (entry ≡ value)) ⊎ ((P → ⊥) × (entry ≡ otherwise))

-- the field has the token of the cell and then zero bytes, or zero bytes alone if the number is not a cell
abbrev pub IsTokenField : ℕ → List ℕ → Type 0
IsTokenField id field =
    IsValueOr (IsCell id) (token_of id ++ replicate (16 - length (token_of id)) 0) (replicate 16 0) field

-- the face and the coordinates are those of a leaf
pub record IsOnFace (point : Point) : Type 0 where
  pub face : point.face < 6
  pub i : point.i < 2 ^ 30
  pub j : point.j < 2 ^ 30

-- the number is the leaf at the point, or 0 if the point is on no face
abbrev pub IsLeafAt : Point → ℕ → Type 0
IsLeafAt point id =
    (IsOnFace point × IsCell id × (level_of id ≡ 30) × IsPlaceOf (first_leaf id) point.face point.i point.j)
    ⊎ ((IsOnFace point → ⊥) × (id ≡ 0))

-- `at` is the first index of the list at which `P` does not hold, or its length if there is none
pub record IsFirstWithout {X : Type 0} (P : X → Type 0) (xs : List X) (at : ℕ) : Type 0 where
  pub within : at ≤ length xs
  pub before : (k : ℕ) (d : X) → k < at → P (slice_index_or xs k d)
  pub there : (d : X) → at < length xs → P (slice_index_or xs at d) → ⊥
