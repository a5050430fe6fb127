-- Unions whose cells are cut to the levels that a caller wants (`S2CellUnion::Denormalize`).
use Rattle.std.specs.Prelude.{◌≡◌, ℕ, List, [], ◌∷◌, ◌++◌, flat_map}
use Rattle.s2cell.specs.Cell.{level_of}
use Rattle.s2cell.specs.CutLevels.{IsCutLevel, IsCut, cut_level, cells_in}

-- `xs` lists, for each cell of `u` in order, all cells that it is cut into
abbrev pub IsDenormalised : ℕ → ℕ → List ℕ → List ℕ → Type 0
IsDenormalised least modulus [] xs = xs ≡ []
IsDenormalised least modulus (c ∷ u) xs =
    (t : ℕ) × (ys : List ℕ) × (zs : List ℕ) × IsCutLevel (level_of c) least modulus t × IsCut c t ys
    × IsDenormalised least modulus u zs × (xs ≡ ys ++ zs)

-- for each cell of `u` in order, the cells that it is cut into: the one list that `IsDenormalised` allows
unfoldable pub denormalised : ℕ → ℕ → List ℕ → List ℕ
unfolding cut_level cells_in
denormalised least modulus u = flat_map (λ c. cells_in (cut_level (level_of c) least modulus) c) u
