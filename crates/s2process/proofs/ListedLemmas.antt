-- One more call in a list.
use Rattle.std.proofs.Common.{◌≡◌, ℕ, ◌<◌, suc, zero, List, [], ◌∷◌, ◌++◌, length, take, flat_map, Some, refl, ap}
use Rattle.std.proofs.Common.{◌∙◌, append-nil, arith}
use Rattle.std.proofs.lemmas.Grind.{flat_map-append}
use Rattle.s2process.specs.StreamCalls.{StreamCall, Took, called_by, called_in}
use Rattle.s2calc.specs.Calls as calls
use Rattle.s2calc.specs.Calls.{NoneFailed, LastFailed}

-- one more item gives what it gives at the end
pub snoc : {X Y : Type 0} (f : X → List Y) (xs : List X) (x : X) → flat_map f (xs ++ x ∷ []) ≡ flat_map f xs ++ f x
snoc f xs x = flat_map-append f xs (x ∷ []) ∙ ap (λ ys. flat_map f xs ++ ys) (append-nil (f x))

took_some : (n : ℕ) (bytes : List ℕ) → 0 < length bytes → 0 < n → called_by (Took (take n bytes)) ≡ calls.Wrote ∷ []
took_some n [] some more = absurd (omega arith)
took_some zero (b ∷ bytes) some more = absurd (omega arith)
took_some (suc n) (b ∷ bytes) some more = refl

-- a write that took some bytes
pub wrote : (old new : List StreamCall) (bytes : List ℕ) (n : ℕ) → new ≡ old ++ Took (take n bytes) ∷ [] →
    0 < length bytes → 0 < n → NoneFailed ⊥ (Some (called_in old)) (Some (called_in new))
wrote old new bytes n is some more = record {
  more = calls.Wrote ∷ [];
  gained = (
    called_in old,
    refl,
    ap called_in is ∙ snoc called_by old (Took (take n bytes))
        ∙ ap (λ xs. called_in old ++ xs) (took_some n bytes some more),
  );
  holds = tt;
}

-- a write that took nothing
pub took_none : (old new : List StreamCall) (bytes : List ℕ) (n : ℕ) → new ≡ old ++ Took (take n bytes) ∷ [] →
    n ≡ 0 → LastFailed ⊥ (Some (called_in old)) (Some (called_in new))
took_none old new bytes n is none = record {
  more = calls.Failed ∷ [];
  gained = (
    called_in old,
    refl,
    ap called_in is ∙ snoc called_by old (Took (take n bytes))
        ∙ ap (λ (k : ℕ). called_in old ++ called_by (Took (take k bytes))) none,
  );
  holds = record { before = []; is = refl; well = tt };
}
