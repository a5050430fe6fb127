-- What a descent through the cells finds, by the depth of a cell (how many levels are below it) and its place in its
-- level.
use Rattle.std.specs.Prelude.{◌≡◌, ℕ, zero, suc, ◌+◌, ◌-◌, ◌*◌, ◌/◌, ◌^◌, Bool, true, false, cond, List, [], ◌∷◌, ◌++◌}
use Rattle.s2cell.specs.Cell.{level_of, place_of}
use Rattle.s2cover.specs.Coverings.{filled, touched, outer_set, inner_set}
use Rattle.s2cover.specs.declared.descent.Kind.{Kind}
use Rattle.s2cover.specs.declared.descent.Kind.TheVariants.{Outer, Inner}

-- whether the covering of this kind is the outer one
abbrev pub is_outer : Kind → Bool
is_outer Outer = true
is_outer Inner = false

-- how many levels are below the cell `c`
abbrev pub depth_of : ℕ → ℕ
depth_of c = 30 - level_of c

-- the identifier of the cell of depth `d` at the place `m`
abbrev pub cell_at : ℕ → ℕ → ℕ
cell_at d m = (2 * m + 1) * 4 ^ d

-- every leaf of the cell `c` is in `S`
abbrev pub filled_in : (ℕ → Bool) → ℕ → Bool
filled_in S c = filled S (place_of c * 4 ^ depth_of c) (4 ^ depth_of c)

-- the leaves of the outer covering if `whole`, else those of the inner one, extended to all numbers; the cells of the
-- covering have the depth `g`
abbrev pub blocks : Bool → (ℕ → Bool) → ℕ → ℕ → Bool
blocks whole R g x = cond whole (touched R (x / 4 ^ g * 4 ^ g) (4 ^ g)) (filled R (x / 4 ^ g * 4 ^ g) (4 ^ g))

-- the leaves that the covering of this kind is made of: those of `outer` if `whole`, else those of `inner`
abbrev pub set_for : Bool → (ℕ → Bool) → (ℕ → Bool) → ℕ → Bool
set_for whole outer inner = cond whole outer inner

-- the same for the numbers of leaves only; the cells of the covering have the level `k`
abbrev pub covering_set : Bool → (ℕ → Bool) → ℕ → ℕ → Bool
covering_set whole R k x = cond whole (outer_set R k x) (inner_set R k x)

-- the set is made of whole cells of the depth `g`
abbrev pub IsAligned : (ℕ → Bool) → ℕ → Type 0
IsAligned S g = (x y : ℕ) → x / 4 ^ g ≡ y / 4 ^ g → S x ≡ S y

-- `n` lists, one after the other
unfoldable pub joined : (ℕ → List ℕ) → ℕ → List ℕ
joined f zero = []
joined f (suc n) = joined f n ++ f n

-- the greatest cells inside `S`, of depth at least `g`, in the cell of depth `g + e` at the place `m`
unfoldable pub form : (ℕ → Bool) → ℕ → ℕ → ℕ → List ℕ
unfolding filled joined
form S g zero m = cond (filled S (m * 4 ^ g) (4 ^ g)) (cell_at g m ∷ []) []
form S g (suc e) m = cond (filled S (m * 4 ^ (g + suc e)) (4 ^ (g + suc e))) (cell_at (g + suc e) m ∷ [])
    (joined (λ p. form S g e (4 * m + p)) 4)

-- the same cells in the cell `c`
abbrev pub form_in : (ℕ → Bool) → ℕ → ℕ → List ℕ
form_in S g c = form S g (depth_of c - g) (place_of c)

-- the same cells in the first `n` faces
abbrev pub form_faces : (ℕ → Bool) → ℕ → ℕ → List ℕ
form_faces S g n = joined (λ face. form S g (30 - g) face) n
