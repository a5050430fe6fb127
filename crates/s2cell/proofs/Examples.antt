-- Worked examples: a cell is described by its level and its place.
use Rattle.std.proofs.Common.{◌≡◌, ℕ, ◌+◌, ◌*◌, ◌/◌, ◌-◌, ◌^◌, List, ◌∙◌}
use Rattle.s2cell.specs.Cell.{IsCellAt}
use Rattle.s2cell.specs.Token.{token_of}
use Rattle.s2cell.specs.Debug.{debug_of}
use Rattle.s2cell.specs.Example.{IsDescribed}
use Rattle.s2cell.proofs.CellLemmas.{level_of_cell, size_of_cell, first_leaf_of_cell}
use Rattle.s2cell.proofs.Tokens.{IsToken-token_of}
use Rattle.s2cell.proofs.Debugs.{IsDebug-debug_of, face_of_cell_at}

pub described : (n k m : ℕ) (token debug : List ℕ) (face first last : ℕ) →
    IsCellAt k m n → token_of n ≡ token → debug_of n ≡ debug → m / 4 ^ k ≡ face →
    m * 4 ^ (30 - k) ≡ first → m * 4 ^ (30 - k) + 4 ^ (30 - k) ≡ last + 1 → IsDescribed n token debug k face first last
described n k m token debug face first last cell t d f a z = record {
  cell = (k, m, cell);
  has_token = rw (← t) (IsToken-token_of (k, m, cell));
  has_debug = rw (← d) (IsDebug-debug_of (k, m, cell));
  level_is = level_of_cell k m n cell;
  face_is = face_of_cell_at cell ∙ f;
  first_is = first_leaf_of_cell k m n cell ∙ a;
  last_is = rw (first_leaf_of_cell k m n cell, size_of_cell k m n cell) z;
}
