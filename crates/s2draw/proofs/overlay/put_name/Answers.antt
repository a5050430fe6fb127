use Rattle.std.proofs.Common.{refl}
use Rattle.s2draw.specs.Overlay.{escaped_byte}
use Rattle.s2draw.proofs.Notes.{one_more}
use Rattle.s2draw.proofs.overlay.put_name.Goals as goal

pub loop-byte-preserved : goal.loop-byte-preserved
loop-byte-preserved c = one_more escaped_byte _ c.args.name.now c.loop-byte.byte-index 0 c.loop-byte.invariant
    c.loop-byte-test.true refl c.in_ok-put_escaped.ensures
