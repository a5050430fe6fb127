-- Lemmas on words that are like names.
use Rattle.std.proofs.Common.{◌≡◌, ℕ, ◌+◌, ◌<◌, ◌≤◌, List, [], ◌∷◌, length, drop, slice_index, refl, arith}
use Rattle.std.proofs.lemmas.List.{drop_more, drop_all}
use Rattle.s2script.specs.Similar.{shared}

one_more : (z : ℕ) (xs ys : List ℕ) → shared (z ∷ xs) (z ∷ ys) ≡ 1 + shared xs ys
one_more z xs ys = grind arith

-- one more byte that both begin with
pub shared_more : (n : ℕ) (xs ys : List ℕ) → n < length xs → n < length ys → slice_index xs n ≡ slice_index ys n →
    shared (drop n xs) (drop n ys) ≡ 1 + shared (drop (n + 1) xs) (drop (n + 1) ys)
shared_more n xs ys x y same =
    rw (drop_more xs n 0 x, drop_more ys n 0 y, same)
    (one_more (slice_index ys n) (drop (n + 1) xs) (drop (n + 1) ys))

none_shared : (xs : List ℕ) → shared xs [] ≡ 0
none_shared [] = refl
none_shared (x ∷ xs) = refl

-- they share nothing more where one of them ends
pub shared_end : (n : ℕ) (xs ys : List ℕ) → length ys ≤ n → shared (drop n xs) (drop n ys) ≡ 0
shared_end n xs ys end = rw (drop_all n ys end) (none_shared (drop n xs))
