-- How many cells lists have that are put together or that others lack.
use Rattle.std.proofs.Common.{◌≡◌, ℕ, ◌+◌, ◌≤◌, ltb, List, [], ◌∷◌, length, refl, sym, ap, ◌∙◌, arith}
use Rattle.std.proofs.lemmas.Bool.{cond_both}
use Rattle.std.proofs.lemmas.Grind.{common_steps}
use Rattle.std.specs.List.Sorted.{IsStrictlyIncreasing}
use Rattle.s2list.specs.Union.{IsLocal}
use Rattle.s2union.specs.Apply.{has, cells_without, insert_cell, insert_cells, applied, Fits}
use Rattle.s2union.proofs.Applied.{local_ascends}
use Rattle.s2union.proofs.CellLists.{same_cells, has-cells_without, has-insert_cells, IsAscending-cells_without}
use Rattle.s2union.proofs.CellLists.{IsAscending-insert_cells, ascends_from}

length-insert_cell : (x : ℕ) (u : List ℕ) → length (insert_cell x u) ≡ length u + 1
length-insert_cell x [] = refl
length-insert_cell x (y ∷ u) =
    let rest = length-insert_cell x u in
    cond_both (ltb x y) (x ∷ y ∷ u) (y ∷ insert_cell x u) (λ (l : List ℕ). length l ≡ length (y ∷ u) + 1)
    (λ _. omega arith) (λ _. omega arith)

pub length-insert_cells : (xs u : List ℕ) → length (insert_cells xs u) ≡ length xs + length u
length-insert_cells [] u = omega arith
length-insert_cells (x ∷ xs) u = omega (arith, length-insert_cells xs (insert_cell x u), length-insert_cell x u)

pub fewer_without : (us vs : List ℕ) → length (cells_without us vs) ≤ length us
fewer_without [] vs = omega arith
fewer_without (u ∷ us) vs =
    let rest = fewer_without us vs in
    cond_both (has vs u) (cells_without us vs) (u ∷ cells_without us vs)
    (λ (l : List ℕ). length l ≤ length (u ∷ us)) (λ _. omega arith) (λ _. omega arith)

-- each list with what it lacks of the other has the cells of both
pub lacking_counts : (us vs : List ℕ) → IsStrictlyIncreasing us → IsStrictlyIncreasing vs →
    length us + length (cells_without vs us) ≡ length vs + length (cells_without us vs)
lacking_counts us vs a b =
    let one : insert_cells (cells_without vs us) us ≡ insert_cells (cells_without us vs) vs =
    same_cells (insert_cells (cells_without vs us) us) (insert_cells (cells_without us vs) vs)
    (IsAscending-insert_cells (cells_without vs us) us (IsAscending-cells_without vs us (ascends_from vs b))
    (λ x h. grind (arith, common_steps, has-cells_without vs us x)) (ascends_from us a))
    (IsAscending-insert_cells (cells_without us vs) vs (IsAscending-cells_without us vs (ascends_from us a))
    (λ x h. grind (arith, common_steps, has-cells_without us vs x)) (ascends_from vs b))
    (λ x. has-insert_cells (cells_without vs us) us x
    ∙ grind (arith, common_steps, has-cells_without vs us x, has-cells_without us vs x)
    ∙ sym (has-insert_cells (cells_without us vs) vs x)) in
    omega (
      arith,
      ap length one,
      length-insert_cells (cells_without vs us) us,
      length-insert_cells (cells_without us vs) vs,
    )

-- how many cells there are without those that are taken out
module _ (out put us : List ℕ) (local : IsLocal us) (f : Fits out put us) where
  put_back : insert_cells out (cells_without us out) ≡ us
  put_back =
      same_cells (insert_cells out (cells_without us out)) us
      (IsAscending-insert_cells out (cells_without us out) (ascends_from out f.out_ascends)
      (λ x h. grind (arith, common_steps, has-cells_without us out x))
      (IsAscending-cells_without us out (local_ascends us local)))
      (local_ascends us local)
      (λ x. has-insert_cells out (cells_without us out) x
      ∙ grind (arith, common_steps, has-cells_without us out x, f.out_is_there x))

  pub length_without : length us ≡ length out + length (cells_without us out)
  length_without = sym (ap length put_back) ∙ length-insert_cells out (cells_without us out)

  pub length_applied : length us + length put ≡ length (applied out put us) + length out
  length_applied = omega (arith, length_without, length-insert_cells put (cells_without us out))
