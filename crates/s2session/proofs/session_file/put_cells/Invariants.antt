use Rattle.std.proofs.Common.{◌≡◌, ◌++◌, length, take, flat_map}
use Rattle.s2list.specs.Numbers.{number_text}
use Rattle.s2session.proofs.session_file.put_cells.Given as goal

abbrev pub invariant-loop-cell : goal.invariant-loop-cell
invariant-loop-cell l = l.bytes.items ≡ l.fn.bytes.items
    ++ (number_text (length l.cells) ++ flat_map number_text (take l.cell-index l.cells))
