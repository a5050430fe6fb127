use Rattle.std.proofs.Common.{arith, refl}
use Rattle.s2cell.specs.Cell.{IsCell}
use Rattle.s2cell.proofs.Tokens.{two_more, digits_done, token_done}
use Rattle.s2cell.proofs.cell.CellId.write_digits.Goals as goal

pub loop-k-preserved : goal.loop-k-preserved
loop-k-preserved c = two_more c.loop-k.k _ _ _ c.loop-k.invariant (omega arith)
    (rw (← c.self.view_is) refl) c.hex_pair-high.ensures.high c.hex_pair-high.ensures.low

pub returns-clause-digits : goal.returns-clause-digits
returns-clause-digits c = digits_done c.loop-k.k c.loop-k.invariant c.loop-k-test.false

pub returns-clause-token : goal.returns-clause-token
returns-clause-token c =
    let i : IsCell c.args.self = rw (← c.self.view_is) c.self.invariant in
    token_done c.loop-k.k i c.loop-k.invariant c.loop-k-test.false
