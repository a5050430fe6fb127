-- Regions taken together, and what remains of a list.
use Rattle.std.specs.List.{list_any}
use Rattle.std.specs.Prelude.{◌≡◌, ◌⊎◌, ℕ, Bool, List, [], ◌∷◌}

-- the leaf `x` is in the set of one of the regions
abbrev pub any_has : {A : Type 0} → (A → ℕ → Bool) → List A → ℕ → Bool
any_has set parts x = list_any (λ part. set part x) parts

-- `ys` has, in their order, what belongs to some items of `xs`, and the others are gone
abbrev pub Remain : {A B : Type 0} → (A → Type 0) → (A → B → Type 0) → List A → List B → Type 0
Remain Gone Has [] [] = Unit {0}
Remain Gone Has [] (y ∷ ys) = ⊥
Remain {A} {B} Gone Has (x ∷ xs) ys = (Gone x × Remain Gone Has xs ys)
    ⊎ ((y : B) × (rest : List B) × (ys ≡ y ∷ rest) × Has x y × Remain Gone Has xs rest)
