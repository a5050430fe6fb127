use Rattle.std.proofs.Common.{◌-◌, take, vec_len}
use Rattle.s2cell.specs.Rectangles.{rect_set}
use Rattle.s2cover.specs.Working.Descent.{form_in}
use Rattle.s2cover.proofs.Parts.{Gathered}
use Rattle.s2cover.proofs.Searches.{Added}
use Rattle.s2cover.proofs.clip.cells_within.Given as goal

abbrev pub invariant-loop-cell : goal.invariant-loop-cell
invariant-loop-cell l =
    Gathered (form_in (rect_set l.rect) (30 - l.level)) (take l.cell-index l.cells) l.list.items (vec_len l.list) l.max
    × Added l.fn.looks.count l.looks.count l.cell-index (vec_len l.list) l.level
