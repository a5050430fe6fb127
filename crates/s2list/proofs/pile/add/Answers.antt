use Rattle.std.proofs.Common.{arith}
use Rattle.s2list.proofs.Heaping.{heap_apart, heap_less, heap_more}
use Rattle.s2list.proofs.pile.add.Goals as goal

pub returns-then-to-from-clause-added : goal.returns-then-to-from-clause-added
returns-then-to-from-clause-added g c S old done next b s = heap_less s b c.if-to-from.true

pub returns-then-from-pile-clause-added : goal.returns-then-from-pile-clause-added
returns-then-from-pile-clause-added g c S old done next b s =
    heap_more s b (omega (arith, c.if-to-from.false)) c.if-from-pile.true

pub returns-clause-added : goal.returns-clause-added
returns-clause-added g c S old done next b s =
    heap_apart s b (omega (arith, c.if-to-from.false)) (omega (arith, c.if-from-pile.false))
    (λ few list. c.in_ok-n.ensures.put few list old)
