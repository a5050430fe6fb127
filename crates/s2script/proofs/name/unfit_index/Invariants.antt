use Rattle.std.proofs.Common.{◌≡◌, drop}
use Rattle.s2script.specs.FileName.{unfit_from, unfit_index}
use Rattle.s2script.proofs.name.unfit_index.Given as goal

-- the bytes so far fit
abbrev pub invariant-loop-byte : goal.invariant-loop-byte
invariant-loop-byte l = (l.index ≡ l.byte-index)
    × (unfit_index l.word ≡ unfit_from l.byte-index (drop l.byte-index l.word))
