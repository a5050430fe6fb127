use Rattle.std.proofs.Common.{arith}
use Rattle.std.proofs.lemmas.Result.{IfOk-weaker}
use Rattle.s2draw.specs.Overlay.{legend}
use Rattle.s2draw.proofs.Notes.{entry}
use Rattle.s2draw.proofs.overlay.put_legend.Goals as goal

pub returns : goal.returns
unfolding legend
returns c =
    IfOk-weaker c.put-2.result _ _
    (λ u q. entry _ _ _ _ _ _ _ _ _ c.in_ok-put_field.ensures c.in_ok-put_field-2.ensures c.in_ok-put_field-3.ensures
    c.in_ok-put_field-4.ensures c.in_ok-put.ensures c.in_ok-put_name.ensures c.in_ok-put_field-5.ensures q
    (omega arith) (omega arith) (omega arith) (omega arith) (omega arith)) c.put-2.ensures
