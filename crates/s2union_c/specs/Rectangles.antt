-- The rectangle that a caller passes by its bounds.
use Rattle.s2cell.specs.Rectangles as Cell
use Rattle.s2union_c.specs.declared.coverings.Rect.{Rect}

-- the rectangle with these bounds
abbrev pub rect_with : Rect → Cell.Rect
rect_with b = record { face = b.face; i0 = b.i0; i1 = b.i1; j0 = b.j0; j1 = b.j1 }
