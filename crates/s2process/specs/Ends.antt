-- How the calls of a writer ended, where all of them are known. Flushes may come at any time.
use Rattle.std.specs.Prelude.{List}
use Rattle.s2calc.specs.Calls as calls
use Rattle.s2calc.specs.Calls.{Call, AllWell, EndsWith}

-- no call of the writer failed
abbrev pub NoneFailed : List Call → Type 0
NoneFailed called = AllWell (Unit {0}) called

-- the last call was a flush, and none failed
abbrev pub LastFlushed : List Call → Type 0
LastFlushed called = EndsWith calls.Flushed (Unit {0}) called

-- the last call failed, and no other did
abbrev pub LastFailed : List Call → Type 0
LastFailed called = EndsWith calls.Failed (Unit {0}) called
