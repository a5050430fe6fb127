use Rattle.std.proofs.Common.{take}
use Rattle.s2map.specs.Working.Parts.{IsAsked}
use Rattle.s2map.proofs.shape.box_part.Given as goal

abbrev pub invariant-loop-part : goal.invariant-loop-part
invariant-loop-part l = IsAsked l.q (take l.part-index l.parts) l.met
