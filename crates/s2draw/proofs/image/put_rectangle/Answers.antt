use Rattle.std.proofs.Common.{◌∙◌}
use Rattle.std.proofs.lemmas.Result.{IfOk-weaker}
use Rattle.s2draw.specs.Picture.{rectangle}
use Rattle.s2draw.proofs.Notes.{fields}
use Rattle.s2draw.proofs.image.put_rectangle.Goals as goal

pub returns : goal.returns
unfolding rectangle
returns c =
    let shape = c.rectangle_of-shape.ensures in
    IfOk-weaker c.put.result _ _
    (λ u q. fields _ _ _ _
    _ _ _ c.in_ok-put_field.ensures c.in_ok-put_field-2.ensures c.in_ok-put_field-3.ensures c.in_ok-put_field-4.ensures
    c.in_ok-put_field-5.ensures q (c.from.ensures ∙ c.level.ensures.value) (c.from-2.ensures ∙ shape.left)
    (c.from-3.ensures ∙ shape.top) (c.from-4.ensures ∙ shape.side) (c.from-5.ensures ∙ shape.side)) c.put.ensures
