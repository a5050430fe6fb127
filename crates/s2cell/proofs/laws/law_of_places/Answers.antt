use Rattle.std.proofs.Common.{◌+◌, ◌*◌, ◌/◌, ◌%◌, ◌^◌, arith}
use Rattle.s2cell.specs.Curve.{i_of, j_of}
use Rattle.s2cell.proofs.Levels.{at_bounds}
use Rattle.s2cell.proofs.Places.{place_is, leaf_exists}
use Rattle.s2cell.proofs.Squares.{one_place, one_leaf, next_beside, place_of_leaf}
use Rattle.s2cell.proofs.laws.law_of_places.Goals as goal

pub returns-clause-place : goal.returns-clause-place
returns-clause-place c n h = (n / 4 ^ 30, i_of n, j_of n, omega arith, place_is n)

pub returns-clause-coordinates : goal.returns-clause-coordinates
returns-clause-coordinates c = place_is

pub returns-clause-leaf : goal.returns-clause-leaf
returns-clause-leaf c face i j hf hi hj =
    let there = leaf_exists 30 (face % 2) i j (omega arith) hi hj in
    let low = (at_bounds 30 (face % 2) there.0 i j there.1).leaf in
    (4 ^ 30 * face + there.0, omega arith, place_of_leaf face there.0 i j there.1)

pub returns-clause-one_place : goal.returns-clause-one_place
returns-clause-one_place c = one_place

pub returns-clause-one_leaf : goal.returns-clause-one_leaf
returns-clause-one_leaf c = one_leaf

pub returns-clause-beside : goal.returns-clause-beside
returns-clause-beside c = next_beside
