use Rattle.std.proofs.Common.{◌∙◌}
use Rattle.s2draw.specs.Picture.{picture}
use Rattle.s2draw.proofs.Shapes.{IsCell-seen, exact}
use Rattle.s2draw.proofs.Notes.{whole}
use Rattle.s2draw.proofs.image.picture.Goals as goal

pub returns-clause-squares : goal.returns-clause-squares
returns-clause-squares c k ic = let s = IsCell-seen ic in exact s.0 s.1

pub returns-clause-bytes : goal.returns-clause-bytes
unfolding picture
returns-clause-bytes c =
    whole c.args.curve c.args.cells.now (c.as_slice.ensures.value ∙ c.in_ok-list.ensures.cells)
    (c.as_slice-2.ensures.value ∙ c.in_ok-list.ensures.cells) c.as_bytes.ensures.value c.in_ok-text.ensures
    c.in_ok-put_note.ensures c.in_ok-put_rectangles.ensures c.in_ok-put_curve.ensures c.in_ok-put.ensures
