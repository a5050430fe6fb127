use Rattle.std.proofs.Common.{arith}
use Rattle.s2draw.specs.Overlay.{overlay_head}
use Rattle.s2draw.proofs.Notes.{begun}
use Rattle.s2draw.proofs.overlay.begin_overlay.Goals as goal

pub returns : goal.returns
unfolding overlay_head
returns c =
    begun _ _ _ c.new-text.ensures.items
    c.in_ok-put_field.ensures c.in_ok-put_field-2.ensures c.in_ok-put.ensures c.in_ok-put-2.ensures
    c.in_ok-put-3.ensures c.in_ok-put-4.ensures c.in_ok-put-5.ensures (omega arith) (omega arith)
    c.as_bytes.ensures.value c.as_bytes-2.ensures.value c.as_bytes-3.ensures.value c.as_bytes-4.ensures.value
