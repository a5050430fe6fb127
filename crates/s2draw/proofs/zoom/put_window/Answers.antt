use Rattle.std.proofs.Common.{arith}
use Rattle.std.proofs.lemmas.Result.{IfOk-weaker}
use Rattle.s2draw.specs.Zoom.{window}
use Rattle.s2draw.proofs.Notes.{two_fields}
use Rattle.s2draw.proofs.zoom.put_window.Goals as goal

pub returns : goal.returns
unfolding window
returns c =
    IfOk-weaker c.put.result _ _
    (λ u q. two_fields _ _ _ _ c.in_ok-put_field.ensures c.in_ok-put_field-2.ensures q (omega arith) (omega arith))
    c.put.ensures
