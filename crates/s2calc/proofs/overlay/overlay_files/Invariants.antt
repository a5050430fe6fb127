use Rattle.std.proofs.Common.{◌≡◌, length, take}
use Rattle.std.specs.Prelude.{string_bytes}
use Rattle.s2draw.specs.Overlay.{overlay_head}
use Rattle.s2calc.proofs.OverlayLemmas.{InPicture}
use Rattle.s2calc.proofs.overlay.overlay_files.Given as goal

-- the files so far were read, and are in the picture
abbrev pub invariant-loop-name : goal.invariant-loop-name
invariant-loop-name g l = (l.index ≡ l.name-index)
    × InPicture string_bytes (take l.name-index l.names) (g.S.Shelf.files l.fn.shelf) l.fn.curve
    (overlay_head (length l.names)) l.text.items (g.S.Shelf.files l.shelf)
