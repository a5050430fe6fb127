-- What the streams of a process were called.
use Rattle.std.specs.Prelude.{◌≡◌, []}
use Rattle.s2process.specs.declared.streams.Streams.{Streams}
use Rattle.s2process.specs.Listed.{calls_of_reader, calls_of}

module _ {R W E : Type 0} (streams : Streams R W E) where
  -- nothing was read
  abbrev pub Unread : Type 0
  Unread = calls_of_reader streams.input ≡ []

  -- nothing was written, and nothing was flushed
  abbrev pub Unwritten : Type 0
  Unwritten = calls_of streams.output ≡ []

  -- nothing was called yet
  pub record AreNew : Type 0 where
    pub unread : Unread
    pub unwritten : Unwritten
    pub untold : calls_of streams.errors ≡ []
