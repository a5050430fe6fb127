-- What a `OneCall`, a `OneShelfCall` and a `OneEvent` show.
use Rattle.std.specs.Prelude.{◌-◌}
use Rattle.s2process.specs.ShelfCalls.{ShelfCall, HandedOver, Missing, OpenedFile, Stored, Failed, ClosedFile}
use Rattle.s2process.specs.ShelfCalls.{CloseFailed}
use Rattle.s2process.specs.StreamCalls.{StreamCall, Gave, ReadFailed, Took, WriteFailed, Flushed, FlushFailed, OfShelf}
use Rattle.s2shelf.specs.OpenedFile.{joined}
use Rattle.s2process.specs.declared.calls.OneCall.{OneCall}
use Rattle.s2process.specs.declared.calls.OneCall.TheVariants as call
use Rattle.s2process.specs.declared.calls.OneShelfCall.{OneShelfCall}
use Rattle.s2process.specs.declared.calls.OneShelfCall.TheVariants as shelf
use Rattle.s2process.specs.declared.moments.OneEvent.{OneEvent}
use Rattle.s2process.specs.declared.moments.OneEvent.TheVariants as event
use Rattle.s2calc.specs.Moments as moments
use Rattle.s2calc.specs.Moments.{Event, Came, LineBegins, LineEnds}

-- the call of a shelf that is shown
abbrev pub shown_by_shelf : OneShelfCall → ShelfCall
shown_by_shelf (shelf.HandedOver name most bytes) = HandedOver name.now most bytes.now
shown_by_shelf (shelf.Missing name) = Missing name.now
shown_by_shelf (shelf.OpenedFile name) = OpenedFile name.now
shown_by_shelf (shelf.Stored name bytes) = Stored name.now bytes.now
shown_by_shelf (shelf.Failed name fault) = Failed name.now fault
shown_by_shelf (shelf.ClosedFile name given ended) =
    ClosedFile (joined name.now.entries) (joined given.now.entries) ended
shown_by_shelf (shelf.CloseFailed name given fault) =
    CloseFailed (joined name.now.entries) (joined given.now.entries) fault

-- the call that is shown
abbrev pub shown : OneCall → StreamCall
shown (call.Gave bytes room) = Gave (room - 1) bytes.now
shown call.ReadFailed = ReadFailed
shown (call.Took bytes) = Took bytes.now
shown call.WriteFailed = WriteFailed
shown call.Flushed = Flushed
shown call.FlushFailed = FlushFailed
shown (call.OfShelf one) = OfShelf (shown_by_shelf one)

-- the event that is seen
abbrev pub seen : OneEvent → Event
seen (event.Came bytes) = Came bytes.now
seen event.ReadFailed = moments.ReadFailed
seen event.LineBegins = LineBegins
seen event.LineEnds = LineEnds
