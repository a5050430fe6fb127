use Rattle.std.proofs.Common.{append_assoc}
use Rattle.s2draw.specs.Picture.{head}
use Rattle.s2draw.proofs.image.begin.Goals as goal

pub returns : goal.returns
unfolding head
returns c =
    rw (
      c.in_ok-put-3.ensures,
      c.in_ok-put-2.ensures,
      c.in_ok-put.ensures,
      c.in_ok-text.ensures.items,
      c.as_bytes.ensures.value,
      c.as_bytes-2.ensures.value,
      c.as_bytes-3.ensures.value,
      c.as_bytes-4.ensures.value,
    ) (simp append_assoc)
