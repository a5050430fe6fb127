-- What a contract sees of an `AnswerBuffer`.
use Rattle.std.specs.Prelude.{ℕ, List, Option}
use Rattle.std.specs.Io.KnownBytes.{append_known}

-- the writer below, and the bytes that have not reached it yet
pub record Buffered (W : Type 0) : Type 0 where
  pub writer : W
  pub waiting : List ℕ

module _ {W : Type 0} where
  -- all that was written: what has reached the writer, if that is known, followed by what waits
  abbrev pub written_to : (W → Option (List ℕ)) → Buffered W → Option (List ℕ)
  written_to contents b = append_known (contents b.writer) b.waiting
