-- A token that is written over a part of a text.
use Rattle.std.proofs.Common.{◌≡◌, ℕ, zero, suc, ◌+◌, ◌<◌, ◌≤◌, List, [], ◌∷◌, ◌++◌, length, take, arith}
use Rattle.std.proofs.Common.{refl, sym, ap, ◌∙◌}
use Rattle.std.proofs.Common.{append_assoc}
use Rattle.std.proofs.Math.ListN.{set}
use Rattle.std.proofs.Math.Seq.{take-append-add}
use Rattle.std.proofs.lemmas.List.{length-take-le}
use Rattle.std.proofs.lemmas.Grind.{take-set_at}

take-take : {X : Type 0} (m n : ℕ) (xs : List X) → m ≤ n → take m (take n xs) ≡ take m xs
take-take zero n xs h = refl
take-take (suc m) zero xs h = absurd (omega arith)
take-take (suc m) (suc n) [] h = refl
take-take (suc m) (suc n) (x ∷ xs) h = ap (λ t. x ∷ t) (take-take m n xs (omega arith))

-- the first bytes of what was written
pub front_written : (a n : ℕ) (xs ys new : List ℕ) → a ≤ length xs → n ≤ length ys →
    take (a + length ys) new ≡ take a xs ++ ys → take (a + n) new ≡ take a xs ++ take n ys
front_written a n xs ys new h most whole =
    let len : length (take a xs) ≡ a = length-take-le a xs h in
    let cut : take (length (take a xs) + n) (take a xs ++ ys) ≡ take a xs ++ take n ys =
    take-append-add (take a xs) ys n in
    sym (take-take (a + n) (a + length ys) new (omega arith)) ∙ ap (λ t. take (a + n) t) whole
    ∙ ap (λ m. take (m + n) (take a xs ++ ys)) (sym len) ∙ cut

-- a blank and then a token
pub blank_written : (a n : ℕ) (xs new token : List ℕ) → a < length xs →
    take n new ≡ take (a + 1) (set xs a 32) ++ token → take n new ≡ take a xs ++ 32 ∷ token
blank_written a n xs new token h e =
    let one : take (a + 1) (set xs a 32) ≡ take a xs ++ 32 ∷ [] = take-set_at xs a (a + 1) 32 refl h in
    e ∙ ap (λ t. t ++ token) one ∙ append_assoc (take a xs) (32 ∷ []) token
