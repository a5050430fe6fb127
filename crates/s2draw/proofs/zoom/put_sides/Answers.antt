use Rattle.std.proofs.Common.{arith}
use Rattle.std.proofs.lemmas.Result.{IfOk-weaker}
use Rattle.s2draw.specs.Zoom.{sides}
use Rattle.s2draw.proofs.Notes.{fields}
use Rattle.s2draw.proofs.zoom.put_sides.Goals as goal

pub returns : goal.returns
unfolding sides
returns c =
    IfOk-weaker c.put.result _ _
    (λ u q. fields _ _ _ _
    _ _ _ c.in_ok-put_field.ensures c.in_ok-put_field-2.ensures c.in_ok-put_field-3.ensures c.in_ok-put_field-4.ensures
    c.in_ok-put_field-5.ensures q (omega arith) (omega arith) (omega arith) (omega arith) (omega arith)) c.put.ensures
