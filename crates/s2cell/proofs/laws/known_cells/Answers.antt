use Rattle.std.proofs.Common.{lit<, lit≤, refl}
use Rattle.std.specs.Int.Count.{count_trailing_zeros}
use Rattle.s2cell.specs.Cell.{level_of, place_of, face_of}
use Rattle.s2cell.specs.Token.{token_of}
use Rattle.s2cell.specs.Debug.{debug_of}
use Rattle.s2cell.proofs.Examples.{described}
use Rattle.s2cell.proofs.laws.known_cells.Goals as goal

pub returns-clause-face_0 : goal.returns-clause-face_0
unfolding token_of debug_of face_of place_of level_of count_trailing_zeros
returns-clause-face_0 c = described 0x1000000000000000 0 0 _ _ _ _ _
    (record { level = lit≤ tt; place = lit< tt; id = refl }) refl refl refl refl refl

pub returns-clause-face_1 : goal.returns-clause-face_1
unfolding token_of debug_of face_of place_of level_of count_trailing_zeros
returns-clause-face_1 c = described 0x3000000000000000 0 1 _ _ _ _ _
    (record { level = lit≤ tt; place = lit< tt; id = refl }) refl refl refl refl refl

pub returns-clause-face_2 : goal.returns-clause-face_2
unfolding token_of debug_of face_of place_of level_of count_trailing_zeros
returns-clause-face_2 c = described 0x5000000000000000 0 2 _ _ _ _ _
    (record { level = lit≤ tt; place = lit< tt; id = refl }) refl refl refl refl refl

pub returns-clause-face_3 : goal.returns-clause-face_3
unfolding token_of debug_of face_of place_of level_of count_trailing_zeros
returns-clause-face_3 c = described 0x7000000000000000 0 3 _ _ _ _ _
    (record { level = lit≤ tt; place = lit< tt; id = refl }) refl refl refl refl refl

pub returns-clause-face_4 : goal.returns-clause-face_4
unfolding token_of debug_of face_of place_of level_of count_trailing_zeros
returns-clause-face_4 c = described 0x9000000000000000 0 4 _ _ _ _ _
    (record { level = lit≤ tt; place = lit< tt; id = refl }) refl refl refl refl refl

pub returns-clause-face_5 : goal.returns-clause-face_5
unfolding token_of debug_of face_of place_of level_of count_trailing_zeros
returns-clause-face_5 c = described 0xb000000000000000 0 5 _ _ _ _ _
    (record { level = lit≤ tt; place = lit< tt; id = refl }) refl refl refl refl refl

pub returns-clause-level_1 : goal.returns-clause-level_1
unfolding token_of debug_of face_of place_of level_of count_trailing_zeros
returns-clause-level_1 c = described 0xc00000000000000 1 1 _ _ _ _ _
    (record { level = lit≤ tt; place = lit< tt; id = refl }) refl refl refl refl refl

pub returns-clause-level_3 : goal.returns-clause-level_3
unfolding token_of debug_of face_of place_of level_of count_trailing_zeros
returns-clause-level_3 c = described 0x64c0000000000000 3 201 _ _ _ _ _
    (record { level = lit≤ tt; place = lit< tt; id = refl }) refl refl refl refl refl

pub returns-clause-level_28 : goal.returns-clause-level_28
unfolding token_of debug_of face_of place_of level_of count_trailing_zeros
returns-clause-level_28 c = described 0x30 28 1 _ _ _ _ _ (record { level = lit≤ tt; place = lit< tt; id = refl })
    refl refl refl refl refl

pub returns-clause-level_30 : goal.returns-clause-level_30
unfolding token_of debug_of face_of place_of level_of count_trailing_zeros
returns-clause-level_30 c = described 0x3 30 1 _ _ _ _ _ (record { level = lit≤ tt; place = lit< tt; id = refl })
    refl refl refl refl refl
