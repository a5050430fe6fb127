-- What the entries of the tables mean; a table takes one level of the curve at a time, or four levels at once.
use Rattle.std.specs.Prelude.{◌≡◌, ℕ, ◌+◌, ◌*◌, ◌/◌, ◌%◌, ◌^◌}
use Rattle.s2cell.specs.Curve.{At, orientation_after}

-- the four bits of a number from bit 0, from bit 8, from bit 16 and from bit 24 on, each in its place
unfoldable pub fours : ℕ → ℕ
fours x = x % 16 + x / 256 % 16 * 256 + x / 65536 % 16 * 65536 + x / 16777216 % 16 * 16777216

-- what an entry has above its eight lowest bits, in eight bits
abbrev pub held : ℕ → ℕ
held entry = entry / 256 % 256

-- the entry for an orientation and the digits of some levels: as many bits of i and below them as many bits of j, and,
-- in the eight lowest bits, sixteen times the orientation after the digits
pub record IsPlaceEntry (levels orientation digits entry : ℕ) : Type 0 where
  pub place : At levels orientation digits (held entry / 2 ^ levels) (held entry % 2 ^ levels)
  pub next : entry % 256 ≡ 16 * orientation_after levels orientation digits

-- the entry for an orientation and, for some levels, as many bits of i and of j: the digits, and, in the eight lowest
-- bits, sixteen times the orientation after them
pub record IsLeafEntry (levels orientation i j entry : ℕ) : Type 0 where
  pub leaf : At levels orientation (held entry) i j
  pub next : entry % 256 ≡ 16 * orientation_after levels orientation (held entry)
