-- Numbers of which one is no cell's.
use Rattle.std.proofs.Common.{ℕ, List, All}
use Rattle.s2cell.specs.Cell.{IsCell}
use Rattle.s2list.specs.Search.{IsFirstWrong}

pub not_all_cells : (u : List ℕ) (k : ℕ) → All IsCell u → IsFirstWrong u k → ⊥
not_all_cells u k all w = w.wrong (all k 0 w.within)
