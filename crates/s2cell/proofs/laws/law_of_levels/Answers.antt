use Rattle.std.proofs.Common.{◌≡◌, ℕ, ◌+◌, ◌-◌, ◌*◌, ◌/◌, ◌%◌, ◌^◌, true, arith}
use Rattle.std.proofs.Math.Nat.{div-eq_of_lt-le}
use Rattle.std.proofs.lemmas.Nat.{div-add-mod', mod_below}
use Rattle.s2cell.specs.Cell.{IsCellAt, IsCell, level_of, place_of, covers}
use Rattle.s2cell.proofs.CellLemmas.{level_of_cell, place_of_cell, size_of_cell, first_leaf_of_cell}
use Rattle.s2cell.proofs.CellLemmas.{own_place, four_pos}
use Rattle.s2cell.proofs.Leaves.{covers_from, covers_there}
use Rattle.s2cell.proofs.laws.law_of_levels.Goals as goal

cell_there : (k m : ℕ) {n : ℕ} → IsCell n → level_of n ≡ k → place_of n ≡ m → IsCellAt k m n
cell_there k m {n} i l p = rw (← l, ← p) (own_place n i)

covered_place : {k m n : ℕ} (x : ℕ) → IsCellAt k m n → covers n x ≡ true → x / 4 ^ (30 - k) ≡ m
covered_place {k} {m} {n} x at h =
    let size = size_of_cell k m n at in
    let first = first_leaf_of_cell k m n at in
    let ends = covers_from n x h in
    div-eq_of_lt-le {k = m} (4 ^ (30 - k)) (omega arith) (omega arith)

covers_place : {k m n : ℕ} (x : ℕ) → IsCellAt k m n → x / 4 ^ (30 - k) ≡ m → covers n x ≡ true
covers_place {k} {m} {n} x at h =
    let size = size_of_cell k m n at in
    let first = first_leaf_of_cell k m n at in
    let split : m * 4 ^ (30 - k) + x % 4 ^ (30 - k) ≡ x = rw (← h) (div-add-mod' x (4 ^ (30 - k))) in
    let below = mod_below x (4 ^ (30 - k)) (four_pos (30 - k)) in
    covers_there n x (omega arith) (omega arith)

pub returns-clause-level_and_place : goal.returns-clause-level_and_place
returns-clause-level_and_place c = λ k m n. (
  λ at. ((k, m, at), level_of_cell k m n at, place_of_cell k m n at),
  λ (i, l, p). cell_there k m i l p,
)

pub returns-clause-leaves : goal.returns-clause-leaves
returns-clause-leaves c = λ k m n x at. (covered_place x at, covers_place x at)
