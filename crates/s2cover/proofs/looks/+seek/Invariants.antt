use Rattle.std.proofs.Common.{◌-◌, vec_len}
use Rattle.s2cell.specs.Cell.{place_of}
use Rattle.s2cell.specs.Rectangles.{rect_set}
use Rattle.s2cover.specs.Working.Descent.{depth_of}
use Rattle.s2cover.proofs.Searches.{Sought}
use Rattle.s2cover.proofs.looks.+seek.Given as goal

abbrev pub decreases-seek : goal.decreases-seek
decreases-seek l = depth_of l.placed.now.cell

abbrev pub invariant-loop-digit : goal.invariant-loop-digit
invariant-loop-digit l = Sought (rect_set l.rect) (30 - l.level) (depth_of l.placed.cell) (place_of l.placed.cell)
    l.digit l.fn.list.items l.list.items (vec_len l.list) l.fn.looks.count l.looks.count l.max
