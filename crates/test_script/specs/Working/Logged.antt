-- What is seen of a shelf that logs its calls.
use Rattle.std.specs.Prelude.{ℕ, false, [], None}
use Rattle.s2shelf.specs.Shelf.{Files}

-- this many failures were counted; nothing else is known of its files, or of its calls
abbrev pub unknown_files : ℕ → Files
unknown_files failures = record {
  tells = false;
  at = λ _. None;
  found = None;
  failures = failures;
  folder = None;
  calls = [];
}
