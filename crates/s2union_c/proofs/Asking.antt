-- Answers that are written one after another.
use Rattle.std.proofs.Common.{ℕ, ◌+◌, ◌<◌, ◌≤◌, List, length, slice_set, get_or, sym, subst, arith}
use Rattle.std.proofs.Math.Logic.{⊎_elim}
use Rattle.std.proofs.Math.Nat.{eq-or-lt_of_le}
use Rattle.std.proofs.lemmas.List.{get_or-set_same, get_or-set_other}

-- what holds of each of `k` answers holds of the one after them too
pub each_more : (P : ℕ → ℕ → Type 0) (bits : List ℕ) (k bit : ℕ) → k < length bits
    → ((i : ℕ) → i < k → P i (get_or bits i 0))
    → P k bit
    → (i : ℕ) → i < k + 1 → P i (get_or (slice_set bits k bit) i 0)
each_more P bits k bit room so_far last i within =
    let up_to : i ≤ k = omega arith in
    ⊎_elim
    (λ e. subst (λ n. P n (get_or (slice_set bits k bit) n 0)) (sym e)
    (subst (λ a. P k a) (sym (get_or-set_same bits k bit 0 room)) last))
    (λ before. subst (λ a. P i a) (sym (get_or-set_other bits k i bit 0 (λ e. omega (arith, e, before))))
    (so_far i before))
    (eq-or-lt_of_le up_to)
