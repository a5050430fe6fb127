use Rattle.std.proofs.Common.{arith, refl}
use Rattle.std.proofs.lemmas.Int.{ints}
use Rattle.s2polygon.proofs.Arcs.{directions_off, odd_off}
use Rattle.s2polygon.proofs.MovedCorners.{inner_moved, outer_moved, sides_moved, touched_moved}
use Rattle.s2polygon.proofs.laws.law_of_moved_corners.Goals as goal

pub returns-clause-touched : goal.returns-clause-touched
returns-clause-touched c = touched_moved

pub returns-clause-sides : goal.returns-clause-sides
returns-clause-sides c num den height r corners moved ends x y h g =
    sides_moved num den height r corners moved ends h g x y

pub returns-clause-outer : goal.returns-clause-outer
returns-clause-outer c num den height r corners moved ends x h g =
    outer_moved num den height r corners moved ends h g x

pub returns-clause-inner : goal.returns-clause-inner
returns-clause-inner c num den height r corners moved ends x h g =
    inner_moved num den height r corners moved ends h g x

pub returns-clause-directions : goal.returns-clause-directions
returns-clause-directions c = directions_off

pub returns-clause-odd : goal.returns-clause-odd
returns-clause-odd c = odd_off

pub returns-clause-known : goal.returns-clause-known
returns-clause-known c = (
  record { some = omega arith; a = omega (arith, ints); b = omega (arith, ints) },
  refl,
)
