-- The first entry of a list that lacks something, while the list is gone through.
use Rattle.std.proofs.Common.{◌≡◌, ℕ, ◌+◌, ◌<◌, ◌≤◌, ◌⊎◌, inl, inr, arith, List, length, get_or, min}
use Rattle.std.proofs.Math.Logic.{⊎_elim}
use Rattle.std.proofs.lemmas.Bool.{cases_lt}
use Rattle.std.proofs.lemmas.Option.{gets}
use Rattle.s2union_c.specs.ManyCells.{IsFirstWithout}

-- `at` is the first of the first `k` indexes at which `P` does not hold, or the length if it holds at all of them
abbrev pub IsFirstSoFar : (P : ℕ → Type 0) → List ℕ → ℕ → ℕ → Type 0
IsFirstSoFar P xs k at =
    ((at ≡ length xs) × ((i d : ℕ) → i < k → P (get_or xs i d))) ⊎ ((at < k) × IsFirstWithout P xs at)

-- at `k` it holds
pub first_held : (P : ℕ → Type 0) (xs : List ℕ) (k at : ℕ) → k < length xs → IsFirstSoFar P xs k at →
    P (get_or xs k 0) → IsFirstSoFar P xs (k + 1) at
first_held P xs k at h so_far holds =
    elim so_far [
      | inl a ↦
          inl (
            a.0,
            λ i d l.
                ⊎_elim
                (λ (b : i < k). a.1 i d b)
                (λ (b : k ≤ i).
                let here : i ≡ k = omega arith in
                let same : get_or xs i d ≡ get_or xs k 0 = rw here (grind (arith, gets)) in
                rw same holds)
                (cases_lt i k),
          )
      | inr a ↦ inr (let l = a.0 in omega arith, a.1)
    ]

-- at `k` it doesn't
pub first_lacking : (P : ℕ → Type 0) (xs : List ℕ) (k at : ℕ) {next : ℕ} → k < length xs → IsFirstSoFar P xs k at →
    (P (get_or xs k 0) → ⊥) → next ≡ min at k → IsFirstSoFar P xs (k + 1) next
first_lacking P xs k at {next} h so_far lacks e =
    elim so_far [
      | inl a ↦
          let all = a.0 in
          let here : next ≡ k = omega arith in
          rw here (inr (
            omega arith,
            record {
              within = omega arith;
              before = λ i d l. a.1 i d l;
              there = λ d l p.
                  let same : get_or xs k d ≡ get_or xs k 0 = grind (arith, gets) in
                  lacks (rw same at p);
            },
          ))
      | inr a ↦
          let before = a.0 in
          let here : next ≡ at = omega arith in
          rw here (inr (omega arith, a.1))
    ]

-- and at the end it is the first of all
pub first_of_all : (P : ℕ → Type 0) (xs : List ℕ) (k at : ℕ) → length xs ≤ k → IsFirstSoFar P xs k at →
    IsFirstWithout P xs at
first_of_all P xs k at h so_far =
    elim so_far [
      | inl a ↦
          let e = a.0 in
          record {
            within = omega arith;
            before = λ i d l. a.1 i d (omega arith);
            there = λ d l. absurd (omega arith);
          }
      | inr a ↦ a.1
    ]
