-- A list that a set operation has written.
use Rattle.std.proofs.Common.{◌≡◌, ℕ, zero, suc, Bool, ◌+◌, ◌-◌, ◌^◌, ◌<◌, ◌≤◌, arith, List, length, get_or}
use Rattle.std.proofs.Math.Logic.{⊎_elim}
use Rattle.std.proofs.lemmas.Bool.{cases_lt}
use Rattle.s2cell.specs.Cell.{first_leaf, size_of}
use Rattle.s2cell.proofs.CellLemmas.{cell_leaves}
use Rattle.s2list.specs.Union.{IsNormalForm, has_leaf}
use Rattle.s2list.specs.Packed.{IsPacked}
use Rattle.s2list.specs.Output.{Writes}
use Rattle.s2list.proofs.Checking.{packed_from_local}
use Rattle.s2list.proofs.Normal.{local_from_normal, normal_from_leaves}
use Rattle.s2list.proofs.Picking.{Picked, picked_local}
use Rattle.s2list.proofs.Shortest.{picked_length}

-- `n` is the length of the list that was written, if that is a number of 64 bits
abbrev pub Counts : (List ℕ → Type 0) → ℕ → Type 0
Counts Holds n = (list : List ℕ) → Holds list → length list < 2 ^ 64 → n ≡ length list

-- each cell takes a leaf at least
at_least : (u : List ℕ) (k : ℕ) → IsPacked u → k < length u → k ≤ first_leaf (get_or u k 0)
at_least u zero p h = omega arith
at_least u (suc k) p h =
    let a = at_least u k p (omega arith) in
    let s = (cell_leaves (get_or u k 0) (p.cells k 0 (omega arith))).some in
    let c : first_leaf (get_or u k 0) + size_of (get_or u k 0) ≤ first_leaf (get_or u (suc k) 0) =
    p.chain k (suc k) 0 (omega arith) h in
    omega arith

-- so the number of cells fits
pub few_cells : (u : List ℕ) → IsPacked u → length u < 2 ^ 64
few_cells u p = ⊎_elim
    (λ (h : 0 < length u).
    let k = length u - 1 in
    let a = at_least u k p (omega arith) in
    let w = (cell_leaves (get_or u k 0) (p.cells k 0 (omega arith))).within in
    omega arith)
    (λ (h : length u ≤ 0). omega arith)
    (cases_lt 0 (length u))

pub written_length : (S : ℕ → Bool) (Holds : List ℕ → Type 0) (list : List ℕ) (n : ℕ) → Counts Holds n →
    Picked S list → ((x : ℕ) → has_leaf list x ≡ S x) → Holds list → n ≡ length list
written_length S Holds list n counts picked leaves held =
    counts list held (few_cells list (packed_from_local list (picked_local S list picked leaves)))

-- the list that was written is the normal form
pub written_normal : (S : ℕ → Bool) (Holds : List ℕ → Type 0) (list : List ℕ) (n : ℕ) → Counts Holds n →
    Picked S list → ((x : ℕ) → has_leaf list x ≡ S x) → Holds list → Writes S Holds n
written_normal S Holds list n counts picked leaves held = record {
  list = list;
  normal = normal_from_leaves S list (picked_local S list picked leaves) leaves;
  leaves = leaves;
  len_is = written_length S Holds list n counts picked leaves held;
  held = held;
}

-- if the cells written so far are more than `most`, so are all
pub written_past : (S : ℕ → Bool) (Holds : List ℕ → Type 0) (list u : List ℕ) (n most : ℕ) → Counts Holds n →
    Picked S list → IsNormalForm S u → Holds list → most < n → most < length u
written_past S Holds list u n most counts picked normal held more =
    let few = few_cells u (packed_from_local u (local_from_normal S u normal)) in
    let le = picked_length S list u picked normal in
    let is = counts list held (omega arith) in
    omega arith
