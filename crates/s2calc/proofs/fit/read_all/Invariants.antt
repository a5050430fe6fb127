use Rattle.std.proofs.Common.{take, map}
use Rattle.std.specs.Prelude.{string_bytes}
use Rattle.s2calc.specs.Overlay.{ReadsLayers}
use Rattle.s2calc.proofs.fit.read_all.Given as goal

-- the files so far were read
abbrev pub invariant-loop-name : goal.invariant-loop-name
invariant-loop-name g l = ReadsLayers (map string_bytes (take l.name-index l.names)) (g.S.Shelf.files l.fn.shelf)
    l.unions.items (g.S.Shelf.files l.shelf)
