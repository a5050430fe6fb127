-- The order of lists.
use Rattle.std.specs.Prelude.{ℕ, ℤ, pos, negsuc, List, [], ◌∷◌, nat_lt, cond}

-- element by element, and then by length: -1, 0 or 1
abbrev pub order : List ℕ → List ℕ → ℤ
order [] [] = pos 0
order [] (y ∷ ys) = negsuc 0
order (x ∷ xs) [] = pos 1
order (x ∷ xs) (y ∷ ys) = cond (nat_lt x y) (negsuc 0) (cond (nat_lt y x) (pos 1) (order xs ys))
