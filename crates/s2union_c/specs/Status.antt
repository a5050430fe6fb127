-- The statuses that calls answer: 0 or more is an answer, below 0 a refusal.
use Rattle.std.specs.Prelude.{◌≡◌, ◌⊎◌, ℕ, ℤ, pos, negsuc}

-- what was asked for was made
abbrev pub made : ℤ
made = pos 0

-- the result is longer than the room
abbrev pub no_room : ℤ
no_room = negsuc 0

-- the system refused memory
abbrev pub no_memory : ℤ
no_memory = negsuc 1

-- a number or a text does not stand for a cell
abbrev pub no_cell : ℤ
no_cell = negsuc 2

-- an argument is out of its range
abbrev pub bad_argument : ℤ
bad_argument = negsuc 4

-- the result would have more cells than are allowed
abbrev pub too_many : ℤ
too_many = negsuc 5

-- bytes of the file are missing
abbrev pub file_short : ℤ
file_short = negsuc 9

-- the file's first byte is not 1
abbrev pub file_version : ℤ
file_version = negsuc 10

-- bytes follow the file's last identifier
abbrev pub file_trailing : ℤ
file_trailing = negsuc 11

-- an identifier in the file is not the identifier of a cell
abbrev pub file_cell : ℤ
file_cell = negsuc 12

-- a corner of a polygon is no direction, or lies opposite the next corner of its ring
abbrev pub bad_corner : ℤ
bad_corner = negsuc 13

-- a ring of a polygon ends in a wrong place or has fewer than three corners, or there is none
abbrev pub bad_ring : ℤ
bad_ring = negsuc 14

-- a text or bytes are no shape, or the shape has no inside
abbrev pub bad_shape : ℤ
bad_shape = negsuc 15

-- the answer yes to a question
abbrev pub yes : ℤ
yes = pos 1

-- the answer no
abbrev pub no : ℤ
no = pos 0

-- the status is the right answer to the question whether `P` holds
abbrev pub IsAnswerTo : ℤ → Type 0 → Type 0
IsAnswerTo status P = ((status ≡ yes) × P) ⊎ ((status ≡ no) × (P → ⊥))

-- the status is yes or no
abbrev pub IsAnswer : ℤ → Type 0
IsAnswer status = (status ≡ yes) ⊎ (status ≡ no)

-- a byte tells whether `P` holds: 1 if it does, else 0
abbrev pub IsBit : ℕ → Type 0 → Type 0
IsBit bit P = ((bit ≡ 1) × P) ⊎ ((bit ≡ 0) × (P → ⊥))
