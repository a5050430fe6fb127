-- The work of walks, level by level.
use Rattle.std.proofs.Common.{◌≡◌, ℕ, ◌+◌, ◌*◌, ◌≤◌, arith, List, ◌∷◌, length}
use Rattle.s2map.specs.Cells.{AreMet}
use Rattle.s2map.specs.declared.place.MapEdge.{MapEdge}
use Rattle.s2written.specs.Walks.{AreLevels, asked_by_all, asked_next}

-- the levels above `k` were walked to, and these are at most the cells that the next walk asks, and all walks ask
pub record IsWalked (map : List (List MapEdge)) (k asked by_all : ℕ) : Type 0 where
  pub met : List (List ℕ)
  pub levels : AreLevels map met
  pub deep : length met ≡ k
  pub asks : asked ≤ asked_next met
  pub asks_all : by_all ≤ asked_by_all met

-- a level more
pub walked_next : (map : List (List MapEdge)) (k asked by_all asked_more by_all_more : ℕ) (u : List ℕ)
    → IsWalked map k asked by_all → AreMet map k u → asked_more ≤ asked + 4 * length u
    → by_all_more ≤ by_all + asked_more → IsWalked map (k + 1) asked_more by_all_more
walked_next map k asked by_all asked_more by_all_more u h m l n =
    let a = h.asks in
    let b = h.asks_all in
    let d = h.deep in
    record {
      met = u ∷ h.met;
      levels = (rw d m, h.levels);
      deep = omega (arith, d);
      asks = omega (arith, a, l);
      asks_all = omega (arith, a, b, l, n);
    }
