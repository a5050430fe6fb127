-- The order of lists of which one ends.
use Rattle.std.proofs.Common.{◌≡◌, ℕ, pos, negsuc, ◌+◌, ◌<◌, ◌≤◌, refl, List, [], ◌∷◌, length, get_or, drop}
use Rattle.std.proofs.Common.{add-one, drop-cons}
use Rattle.std.proofs.Math.ListN.{drop_of_length-le}
use Rattle.s2union_c.specs.Order.{order}

front : (xs : List ℕ) (k : ℕ) → k < length xs → drop k xs ≡ get_or xs k 0 ∷ drop (k + 1) xs
front xs k h = rw (add-one, drop-cons xs k 0)

pub shorter_at : (xs ys : List ℕ) (k : ℕ) → length xs ≤ k → k < length ys → order (drop k xs) (drop k ys) ≡ negsuc 0
shorter_at xs ys k h g = let e : drop k xs ≡ [] = drop_of_length-le xs h in rw (e, front ys k g) refl

pub longer_at : (xs ys : List ℕ) (k : ℕ) → k < length xs → length ys ≤ k → order (drop k xs) (drop k ys) ≡ pos 1
longer_at xs ys k h g = let e : drop k ys ≡ [] = drop_of_length-le ys g in rw (front xs k h, e) refl
