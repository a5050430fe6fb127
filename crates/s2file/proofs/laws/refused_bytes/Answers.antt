use Rattle.std.proofs.Common.{◌∷◌, List, ℕ, inl, inr, refl, lit<, lit≤, arith}
use Rattle.s2list.specs.Numbers.{first_number}
use Rattle.s2file.specs.File.{HasVersion}
use Rattle.s2file.specs.Numbers.{numbers_in}
use Rattle.s2file.proofs.Known.{zero_is_none, odd_place_is_none, face_6_is_none}
use Rattle.s2file.proofs.laws.refused_bytes.Goals as goal

-- whatever follows it, the first byte is 1
version : (more : List ℕ) → HasVersion (1 ∷ more)
version more = record { some = omega arith; version = refl }

pub returns-clause-no_byte : goal.returns-clause-no_byte
returns-clause-no_byte c = (inl refl, λ head. omega (arith, head.whole))

pub returns-clause-version_2 : goal.returns-clause-version_2
returns-clause-version_2 c = (lit< tt, λ same. omega (arith, same))

pub returns-clause-version_2_and_count : goal.returns-clause-version_2_and_count
returns-clause-version_2_and_count c = (lit< tt, λ same. omega (arith, same))

pub returns-clause-head_cut_off : goal.returns-clause-head_cut_off
returns-clause-head_cut_off c = (inr (inl (version _, lit< tt)), λ head. absurd (omega (arith, head.whole)))

pub returns-clause-greatest_count : goal.returns-clause-greatest_count
unfolding first_number
returns-clause-greatest_count c = (record { version = version _; whole = lit≤ tt }, lit< tt)

pub returns-clause-count_1000001 : goal.returns-clause-count_1000001
unfolding first_number
returns-clause-count_1000001 c = (record { version = version _; whole = lit≤ tt }, lit< tt)

pub returns-clause-identifier_cut_off : goal.returns-clause-identifier_cut_off
unfolding first_number
returns-clause-identifier_cut_off c =
    (inr (inr (record { version = version _; whole = lit≤ tt }, lit< tt)), λ head. lit≤ tt)

pub returns-clause-byte_after : goal.returns-clause-byte_after
unfolding first_number
returns-clause-byte_after c = ((record { version = version _; whole = lit≤ tt }, lit< tt), lit≤ tt)

pub returns-clause-identifier_0 : goal.returns-clause-identifier_0
unfolding first_number numbers_in
returns-clause-identifier_0 c = (
  record {
    framed = record { head = record { version = version _; whole = lit≤ tt }; length_is = refl };
    most = lit≤ tt;
  },
  record { place = 0; within = lit< tt; wrong = zero_is_none },
)

pub returns-clause-odd_place : goal.returns-clause-odd_place
unfolding first_number numbers_in
returns-clause-odd_place c = (
  record {
    framed = record { head = record { version = version _; whole = lit≤ tt }; length_is = refl };
    most = lit≤ tt;
  },
  record { place = 0; within = lit< tt; wrong = odd_place_is_none },
)

pub returns-clause-face_6 : goal.returns-clause-face_6
unfolding first_number numbers_in
returns-clause-face_6 c = (
  record {
    framed = record { head = record { version = version _; whole = lit≤ tt }; length_is = refl };
    most = lit≤ tt;
  },
  record { place = 0; within = lit< tt; wrong = face_6_is_none },
)
