use Rattle.std.proofs.Common.{◌≡◌, ◌-◌}
use Rattle.s2shape.specs.Reading.{times}
use Rattle.s2shape.specs.Working.Seen.{seen}
use Rattle.s2shape.specs.Wkb.{ring_at}
use Rattle.s2shape.proofs.wkb.read_rings.Given as goal

abbrev pub invariant-loop : goal.invariant-loop
invariant-loop l = times (l.count - l.counter) (ring_at l.endian l.stride) (seen l.reading, l.rest)
    ≡ times l.count (ring_at l.endian l.stride) (seen l.fn.reading, l.fn.bytes)
