use Rattle.std.proofs.Common.{arith, sym, ◌∙◌}
use Rattle.std.proofs.lemmas.Result.{IfOk-weaker}
use Rattle.s2draw.specs.Picture.{note}
use Rattle.s2draw.proofs.Notes.{noted, not_noted}
use Rattle.s2draw.proofs.image.put_note.Goals as goal

pub returns-in-0 : goal.returns-in-0
unfolding note
returns-in-0 c = not_noted _ _ _ _ c.in_ok-put_field.ensures c.in_ok-put.ensures (sym c.small.ensures ∙ c.in-0.is)

pub returns-in_default : goal.returns-in_default
unfolding note
returns-in_default c =
    rw (← c.small.ensures) (IfOk-weaker c.put_small.result _ _
    (λ u q. noted _ _ _ _ _ c.in_ok-put_field.ensures c.in_ok-put.ensures (omega arith) q) c.put_small.ensures)
