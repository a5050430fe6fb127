use Rattle.std.proofs.Common.{inl, inr, ap, length}
use Rattle.s2shape.specs.Reading.{shape_seen}
use Rattle.s2union_c.proofs.Shown.{no_room_for}
use Rattle.s2union_c.proofs.reading.put_shape.Goals as goal
use Rattle.s2union_c.proofs.reading.put_shape.Goals.{then-len-places-via-then-len-places}
use Rattle.s2union_c.proofs.reading.put_shape.Goals.{then-len-places-via-else-len-places+then-rings_len-rings}

pub returns-then-len-places : goal.returns-then-len-places
returns-then-len-places c =
    let none = no_room_for (shape_seen c.args.shape.now) c.args.places.now c.args.rings.now _ _
    (ap length c.as_slice-positions.ensures.value) (ap length c.as_slice-ends.ensures.value) in
    elim c.then-len-places.branch [
      | then-len-places-via-then-len-places w ↦ inr (none (inl w.if-len-places.true))
      | then-len-places-via-else-len-places+then-rings_len-rings w ↦ inr (none (inr w.if-rings_len-rings.true))
    ]
