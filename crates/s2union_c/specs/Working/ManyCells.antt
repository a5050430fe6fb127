-- What only private contracts need, beside ManyCells.antt, which has what public contracts need.
use Rattle.std.specs.Prelude.{◌+◌, ◌-◌, ◌*◌, ℕ}
use Rattle.s2cell.specs.Cell.{IsCell, first_leaf, parent_of, size_of}
use Rattle.s2union_c.specs.declared.many_cells.Relative.{Relative}
use Rattle.s2union_c.specs.declared.many_cells.Relative.TheVariants.{Parent, FirstLeaf, LastLeaf}
use Rattle.s2union_c.specs.ManyCells.{HasParent}

-- the number is a cell that has the relative
abbrev pub HasRelative : Relative → ℕ → Type 0
HasRelative (Parent level) id = HasParent level id
HasRelative FirstLeaf id = IsCell id
HasRelative LastLeaf id = IsCell id

-- the relative of the cell
abbrev pub relative_of : Relative → ℕ → ℕ
relative_of (Parent level) id = parent_of id level
relative_of FirstLeaf id = 2 * first_leaf id + 1
relative_of LastLeaf id = 2 * (first_leaf id + size_of id) - 1
