use Rattle.std.proofs.Common.{refl}
use Rattle.std.proofs.Math.Bool.{xor}
use Rattle.s2map.proofs.laws.known_places.Goals as goal

pub returns-clause-middle : goal.returns-clause-middle
unfolding xor
returns-clause-middle c = refl

pub returns-clause-beside : goal.returns-clause-beside
unfolding xor
returns-clause-beside c = refl

pub returns-clause-above : goal.returns-clause-above
unfolding xor
returns-clause-above c = refl

pub returns-clause-below : goal.returns-clause-below
unfolding xor
returns-clause-below c = refl

pub returns-clause-west_side : goal.returns-clause-west_side
unfolding xor
returns-clause-west_side c = refl

pub returns-clause-east_side : goal.returns-clause-east_side
unfolding xor
returns-clause-east_side c = refl

pub returns-clause-south_side : goal.returns-clause-south_side
unfolding xor
returns-clause-south_side c = refl

pub returns-clause-north_side : goal.returns-clause-north_side
unfolding xor
returns-clause-north_side c = refl

pub returns-clause-a_turn_on : goal.returns-clause-a_turn_on
unfolding xor
returns-clause-a_turn_on c = refl

pub returns-clause-west_of_date_line : goal.returns-clause-west_of_date_line
unfolding xor
returns-clause-west_of_date_line c = refl

pub returns-clause-east_of_date_line : goal.returns-clause-east_of_date_line
unfolding xor
returns-clause-east_of_date_line c = refl

pub returns-clause-farther_east : goal.returns-clause-farther_east
unfolding xor
returns-clause-farther_east c = refl

pub returns-clause-right_of_slant : goal.returns-clause-right_of_slant
unfolding xor
returns-clause-right_of_slant c = refl

pub returns-clause-on_slant : goal.returns-clause-on_slant
unfolding xor
returns-clause-on_slant c = refl

pub returns-clause-left_of_slant : goal.returns-clause-left_of_slant
unfolding xor
returns-clause-left_of_slant c = refl

pub returns-clause-in_cap : goal.returns-clause-in_cap
unfolding xor
returns-clause-in_cap c = refl

pub returns-clause-in_cap_at_date_line : goal.returns-clause-in_cap_at_date_line
unfolding xor
returns-clause-in_cap_at_date_line c = refl

pub returns-clause-south_of_cap : goal.returns-clause-south_of_cap
unfolding xor
returns-clause-south_of_cap c = refl
