-- The folders of the system.
use Rattle.std.specs.Prelude.{◌≡◌, ℕ, List, []}
use Rattle.s2shelf.specs.declared.dir_shelf.DirShelf.{DirShelf}
use Rattle.s2shelf.specs.DirShelf.{calls_of_folder, folder_files, folder_path}
use Rattle.s2shelf.specs.Shelf.{Files}
use Rattle.s2process.specs.declared.shelf.ListedShelf.{ListedShelf}
use Rattle.s2process.specs.Listed.{calls_of_shelf, listed_files, shelf_below}

-- what is known of a folder of the system whose calls are listed: what was found and stored, and how many failures were
-- counted, but not what its files hold
abbrev pub system_files : {R F D : Type 0} → ListedShelf (DirShelf R F D) → Files
system_files folder = listed_files folder_files folder

-- the folder was made with this path; no failure was counted, nothing was called, and the system was asked for nothing
abbrev pub IsMadeAt : {R F D : Type 0} → ListedShelf (DirShelf R F D) → List ℕ → Type 0
IsMadeAt folder path = (folder_path (shelf_below folder) ≡ path)
    × ((folder_files (shelf_below folder)).failures ≡ 0) × (calls_of_shelf folder ≡ [])
    × (calls_of_folder (shelf_below folder) ≡ [])
