-- What is seen of a shelf in memory: its files, and which call fails.
use Rattle.std.specs.Prelude.{ℕ, true, List, [], Option, None, option_map}
use Rattle.std.specs.BTreeMap.{get_by_text}
use Rattle.s2shelf.specs.declared.memory_shelf.MemoryShelf.{MemoryShelf}
use Rattle.s2shelf.specs.Shelf.{Files}

-- the file of that name
abbrev pub file_named : MemoryShelf → List ℕ → Option (List ℕ)
file_named shelf name = option_map (λ bytes. bytes.items) (get_by_text shelf.named name)

-- what is known of the shelf: it exposes every file, so what was found needs no record; it is no folder of the system
abbrev pub files_of : MemoryShelf → Files
files_of shelf = record {
  tells = true;
  at = file_named shelf;
  found = None;
  failures = shelf.failures;
  folder = None;
  calls = [];
}

-- which call from now on fails: 1 is the next one, 0 means none
abbrev pub failing_of : MemoryShelf → ℕ
failing_of shelf = shelf.failing
