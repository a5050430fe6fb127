use Rattle.std.proofs.Common.{arith}
use Rattle.s2union_c.proofs.Placed.{made_length}
use Rattle.s2union_c.proofs.texts.s2u_debug.Goals as goal

pub returns-in-Some-clause-most : goal.returns-in-Some-clause-most
returns-in-Some-clause-most c = omega (arith, made_length c.put.ensures, c.as_slice.ensures.fits)
