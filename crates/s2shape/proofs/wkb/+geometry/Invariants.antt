use Rattle.std.proofs.Common.{◌≡◌, ◌-◌, ◌+◌, ◌*◌}
use Rattle.s2shape.specs.Reading.{times}
use Rattle.s2shape.specs.Working.Seen.{seen}
use Rattle.s2shape.specs.Wkb.{geometry_at}
use Rattle.s2shape.proofs.wkb.+geometry.Given as goal

abbrev pub decreases-read_geometry : goal.decreases-read_geometry
decreases-read_geometry l = 2 * l.lists

abbrev pub decreases-read_members : goal.decreases-read_members
decreases-read_members l = 2 * l.lists + 1

abbrev pub invariant-read_members-loop : goal.invariant-read_members-loop
invariant-read_members-loop l = times (l.count - l.counter) (geometry_at l.lists l.list) (seen l.reading, l.rest)
    ≡ times l.count (geometry_at l.lists l.list) (seen l.fn.reading, l.fn.bytes)
