-- The part of a shape that has been read so far, in memory.
use Rattle.s2shape.specs.Reading.{Read}
use Rattle.s2shape.specs.declared.reading.Reading.{Reading}

-- what a `Reading` has read
abbrev pub seen : Reading → Read
seen r = record {
  size = r.size;
  positions = r.positions.items;
  rings = r.rings.items;
  parts = r.parts.items;
  begun = r.begun;
}
