-- Items that are read by their places, one after another.
use Rattle.std.proofs.Common.{◌≡◌, ℕ, zero, suc, ◌+◌, ◌≤◌, List, [], ◌∷◌, ◌++◌, length, take, slice_get, Some, None}
use Rattle.std.proofs.Common.{ap, ◌∙◌, arith}

pub take_one : {X : Type 0} (xs : List X) (n : ℕ) (x : X) → slice_get xs n ≡ Some x →
    take (n + 1) xs ≡ take n xs ++ x ∷ []
take_one [] n x h = absurd (cc)
take_one {X} (y ∷ xs) zero x h = let q : y ≡ x = cc in ap (λ (z : X). z ∷ []) q
take_one {X} (y ∷ xs) (suc n) x h =
    let one : suc n + 1 ≡ suc (n + 1) = omega arith in
    ap (λ (k : ℕ). take k (y ∷ xs)) one ∙ ap (λ (l : List X). y ∷ l) (take_one xs n x h)

pub none_past : {X : Type 0} (xs : List X) (n : ℕ) → slice_get xs n ≡ None → length xs ≤ n
none_past [] n h = omega arith
none_past (x ∷ xs) zero h = absurd (cc)
none_past (x ∷ xs) (suc n) h = let l : length xs ≤ n = none_past xs n h in omega arith
