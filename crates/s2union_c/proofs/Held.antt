-- How many cells and ancestors of cells there are.
use Rattle.std.proofs.Common.{◌≡◌, ℕ, ◌*◌, ◌≤◌, true, List, length, map, flat_map, refl, ◌∙◌, arith}
use Rattle.std.proofs.Common.{All, Contains}
use Rattle.std.specs.List.{range_with_len}
use Rattle.std.proofs.lemmas.List.Elements.{All-contains}
use Rattle.std.proofs.lemmas.List.FromFn.{get_or-map-range_with_len, length-map-range_with_len}
use Rattle.std.proofs.lemmas.List.Kept.{AllPairs-from_increasing}
use Rattle.s2cell.specs.Cell.{IsCell, covers, first_leaf, level_of, parent_of}
use Rattle.s2cell.proofs.CellLemmas.{cell_leaves}
use Rattle.s2cell.proofs.Calls.{IsCell-parent_of}
use Rattle.s2cell.proofs.Family.{parent_around, parent_level}
use Rattle.s2cell.proofs.Leaves.{covers_there, inside_from_within, within_from_inside}
use Rattle.s2list.proofs.Lengths.{fewer, flat_few, flat_member, level_from_within}
use Rattle.s2list.proofs.Normal.{same_level_same}
use Rattle.s2room.specs.Ancestors.{AreHolders}

-- the ancestors of a cell, and itself
abbrev above : ℕ → List ℕ
above x = map (parent_of x) (range_with_len 0 31)

-- a cell around another is one of these
holder_above : (x c : ℕ) → IsCell x → IsCell c → ((y : ℕ) → covers x y ≡ true → covers c y ≡ true)
    → Contains (above x) c
holder_above x c cx cc inside =
    let some = (cell_leaves x cx).some in
    let shallow = (cell_leaves c cc).shallow in
    let here : covers x (first_leaf x) ≡ true = covers_there x (first_leaf x) (omega arith) (omega arith) in
    let up = level_from_within x c cx cc (within_from_inside x c cx inside) in
    let k = level_of c in
    let level = parent_level x k cx up in
    let is : parent_of x k ≡ c = same_level_same (first_leaf x) (IsCell-parent_of x k (parent_of x k) cx up refl) cc
    level (inside_from_within x (parent_of x k) (parent_around x k cx up) (first_leaf x) here)
    (inside (first_leaf x) here) in (
      k,
      rw (length-map-range_with_len (parent_of x) 0 31) (omega arith),
      get_or-map-range_with_len (parent_of x) 0 31 k k c (omega arith) (omega arith) ∙ is,
    )

-- there are at most 31 for each cell
pub holders_few : (u list : List ℕ) → All IsCell u → AreHolders u list → length list ≤ 31 * length u
holders_few u list all h =
    let within = fewer list (flat_map above u) (AllPairs-from_increasing list h.ascending) (λ c m.
    let holder = (h.members c).0 m in
    flat_member above u holder.held c holder.among
    (holder_above holder.held c (All-contains IsCell u holder.held all holder.among) holder.cell holder.inside)) in
    let most = flat_few 31 above u (λ x. let e = length-map-range_with_len (parent_of x) 0 31 in omega arith) in
    omega arith
