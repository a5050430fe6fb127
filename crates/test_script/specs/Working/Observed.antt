-- What a contract sees of an observer that lists what it sees.
use Rattle.std.specs.Prelude.{List, Option, map, option_map, Vec}
use Rattle.std.specs.declared.alloc.Global.{Global}
use Rattle.s2calc.specs.Moments.{Event, Came, ReadFailed, LineBegins, LineEnds, Moment, moment}
use Rattle.test_script.specs.declared.observer.SeenEvent.{SeenEvent}
use Rattle.test_script.specs.declared.observer.SeenEvent.TheVariants as seen
use Rattle.test_script.specs.declared.observer.SeenMoment.{SeenMoment}
use Rattle.test_script.specs.Working.Known.{entries}

-- what was seen, as a contract has it
abbrev pub event_of : SeenEvent → Event
event_of (seen.Came bytes) = Came bytes.items
event_of seen.ReadFailed = ReadFailed
event_of seen.LineBegins = LineBegins
event_of seen.LineEnds = LineEnds

module _ {W S : Type 0} where
  -- what was seen, with the writer and the shelf as they were
  abbrev pub moment_of : SeenMoment W S → Moment W S
  moment_of it = moment (event_of it.event) it.writer it.shelf

  -- all that was seen, if the list is known
  abbrev pub seen_by : Option (Vec (SeenMoment W S) Global) → Option (List (Moment W S))
  seen_by list = option_map (map moment_of) (entries list)
