-- What is seen of a folder.
use Rattle.std.specs.Prelude.{◌≡◌, ℕ, false, List, Option, None, Some, IfSome, option_map, take}
use Rattle.std.specs.Io.KnownBytes.{Appends}
use Rattle.std.specs.String.{string_bytes}
use Rattle.s2shelf.specs.declared.dir_shelf.DirShelf.{DirShelf}
use Rattle.s2shelf.specs.FileCalls.{FileCall}
use Rattle.s2shelf.specs.Shelf.{Files}

-- the path that goes before each name
abbrev pub folder_path : {R F D : Type 0} → DirShelf R F D → List ℕ
folder_path shelf = string_bytes shelf.path

-- the calls that it made of the system's files so far, in order
abbrev pub calls_of_folder : {R F D : Type 0} → DirShelf R F D → List FileCall
calls_of_folder shelf = shelf.files.calls.entries

-- what is known of a folder: it doesn't expose its files, which are what the system gives
abbrev pub folder_files : {R F D : Type 0} → DirShelf R F D → Files
folder_files shelf = record {
  tells = false;
  at = λ _. None;
  found = None;
  failures = shelf.failures;
  folder = Some (folder_path shelf);
  calls = calls_of_folder shelf;
}

-- the bytes are the first `most` that reads of some file of the system give, as far as it is known what they give
abbrev pub IsRead : {F : Type 0} → (F → Option (List ℕ)) → ℕ → List ℕ → Type 0
IsRead {F} remaining most bytes = (file : F) × IfSome (option_map (take most) (remaining file)) (λ known. bytes ≡ known)

-- some file of the system took all these bytes, as far as it is known what it holds
abbrev pub IsWritten : {F : Type 0} → (F → Option (List ℕ)) → List ℕ → Type 0
IsWritten {F} contents bytes = (old new : F) × Appends (contents old) (contents new) bytes
