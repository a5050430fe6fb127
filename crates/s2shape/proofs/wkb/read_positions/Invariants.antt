use Rattle.std.proofs.Common.{◌≡◌, ◌-◌}
use Rattle.s2shape.specs.Reading.{times}
use Rattle.s2shape.specs.Working.Seen.{seen}
use Rattle.s2shape.specs.Wkb.{position_at}
use Rattle.s2shape.proofs.wkb.read_positions.Given as goal

abbrev pub invariant-loop : goal.invariant-loop
invariant-loop l = times (l.count - l.counter) (position_at l.endian l.stride) (seen l.reading, l.rest)
    ≡ times l.count (position_at l.endian l.stride) (seen l.fn.reading, l.fn.bytes)
