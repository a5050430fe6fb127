use Rattle.std.proofs.Common.{◌≡◌, ◌++◌, take}
use Rattle.s2draw.specs.Zoom.{zoom_layers_from}
use Rattle.s2calc.proofs.fit.add_all.Given as goal

-- the unions so far are in the picture
abbrev pub invariant-loop-one : goal.invariant-loop-one
invariant-loop-one l = (l.index ≡ l.one-index)
    × (l.text.items ≡ l.initial.text.items ++ zoom_layers_from l.part 0 (take l.one-index l.unions))
