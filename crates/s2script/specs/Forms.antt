-- The forms that the words of a command may have, from left to right.
use Rattle.std.specs.Prelude.{ℕ, ◌+◌, ◌-◌, ◌&&◌, List, [], ◌∷◌, nat_le, nat_lt, if◌then◌else◌, Option, Some}
use Rattle.std.specs.Prelude.{None, Result, Ok, Err}
use Rattle.s2cell.specs.Cell.{first_leaf, size_of}
use Rattle.s2cell.specs.Rectangles.{Rect}
use Rattle.s2script.specs.declared.register.TheConstants.{REGISTERS}
use Rattle.s2script.specs.declared.misfit.Wanted.{Wanted}
use Rattle.s2script.specs.declared.misfit.Wanted.TheVariants.{EndOfLine, Register, Cell, RangeEnd, Level, Modulus, Face}
use Rattle.s2script.specs.declared.misfit.Wanted.TheVariants.{Coordinate, FileName}
use Rattle.s2script.specs.declared.misfit.Misfit.{Misfit}
use Rattle.s2script.specs.declared.misfit.Misfit.TheVariants.{Missing, Unfit}
use Rattle.s2script.specs.declared.limits.TheConstants.{GREATEST_FACE, GREATEST_LEVEL, GREATEST_MODULUS}
use Rattle.s2script.specs.declared.limits.TheConstants.{GREATEST_COORDINATE}
use Rattle.s2script.specs.Named.{cell_named}
use Rattle.s2script.specs.Number.{number_within}
use Rattle.s2script.specs.Values.{Spot, RangeEnds}
use Rattle.s2script.specs.FileName.{name_of_word}
use Rattle.s2script.specs.CellList.{next_cells}

-- a value and the words after it, or where the words do not fit
abbrev pub Taken : Type 0 → Type 0
Taken X = Result (X × List (List ℕ)) Misfit

infixl 10 ◌and_then◌
infixl 10 ◌gives◌
-- the misfit, or what follows from the value
abbrev pub ◌and_then◌ : {X Y : Type 0} → Result X Misfit → (X → Result Y Misfit) → Result Y Misfit
Ok x and_then next = next x
Err misfit and_then next = Err misfit

-- the misfit, or what is made of the value
abbrev pub ◌gives◌ : {X Y : Type 0} → Result X Misfit → (X → Y) → Result Y Misfit
Ok x gives make = Ok (make x)
Err misfit gives make = Err misfit

-- the value that a word stands for, or if there is none, the misfit of the word: it and what is wanted in its place
abbrev pub value_or : {X : Type 0} → Option X → List ℕ → Wanted → List (List ℕ) → Taken X
value_or None word wanted ws = Err (Unfit word wanted)
value_or (Some x) word wanted ws = Ok (x, ws)

-- the next word, which must stand for a value
abbrev pub next_as : {X : Type 0} → (List ℕ → Option X) → Wanted → List (List ℕ) → Taken X
next_as meaning wanted [] = Err (Missing wanted)
next_as meaning wanted (w ∷ ws) = value_or (meaning w) w wanted ws

-- the value, if no word is left
abbrev pub at_end : {X : Type 0} → List (List ℕ) → X → Result X Misfit
at_end [] x = Ok x
at_end (w ∷ ws) x = Err (Unfit w EndOfLine)

-- a register, by its letter
abbrev pub register_named : List ℕ → Option ℕ
register_named [] = None
register_named (b ∷ []) = if nat_le 97 b && nat_lt b (97 + REGISTERS) then Some (b - 97) else None
register_named (b ∷ c ∷ bs) = None

-- the next word as a register
abbrev pub next_register : List (List ℕ) → Taken ℕ
next_register ws = next_as register_named Register ws

-- the next word as a cell
abbrev pub next_cell : List (List ℕ) → Taken ℕ
next_cell ws = next_as cell_named Cell ws

-- the next word as a level
abbrev pub next_level : List (List ℕ) → Taken ℕ
next_level ws = next_as (number_within 0 GREATEST_LEVEL) Level ws

-- the next word as a modulus of levels
abbrev pub next_modulus : List (List ℕ) → Taken ℕ
next_modulus ws = next_as (number_within 1 GREATEST_MODULUS) Modulus ws

-- the next word as a face
abbrev pub next_face : List (List ℕ) → Taken ℕ
next_face ws = next_as (number_within 0 GREATEST_FACE) Face ws

-- the next word as a coordinate that is not below the least one
abbrev pub next_coordinate : ℕ → List (List ℕ) → Taken ℕ
next_coordinate low ws = next_as (number_within low GREATEST_COORDINATE) (Coordinate low) ws

-- the next word as the name of a file
abbrev pub next_name : List (List ℕ) → Taken (List ℕ)
next_name ws = next_as name_of_word FileName ws

-- the cell that a word names, which must not end before the other begins
abbrev pub in_order : ℕ → List ℕ → ℕ → List (List ℕ) → Taken ℕ
in_order first word last ws = if nat_lt (first_leaf first) (first_leaf last + size_of last) then Ok (last, ws)
    else Err (Unfit word RangeEnd)

-- the next word as the second cell of a range
abbrev pub next_last : ℕ → List (List ℕ) → Taken ℕ
next_last first [] = Err (Missing Cell)
next_last first (w ∷ ws) = value_or (cell_named w) w Cell ws and_then λ (last, ws). in_order first w last ws

-- the next two words as the cells of a range
abbrev pub next_span : List (List ℕ) → Taken RangeEnds
next_span ws = next_cell ws and_then λ (first, ws). next_last first ws
    and_then λ (last, ws). Ok (record { first = first; last = last }, ws)

-- `FACE I J`
abbrev pub next_place : List (List ℕ) → Taken Spot
next_place ws = next_face ws and_then λ (face, ws). next_coordinate 0 ws and_then λ (i, ws). next_coordinate 0 ws
    and_then λ (j, ws). Ok (record { face = face; i = i; j = j }, ws)

-- `FACE I0 I1 J0 J1`
abbrev pub next_rect : List (List ℕ) → Taken Rect
next_rect ws =
    next_face ws and_then λ (face, ws). next_coordinate 0 ws and_then λ (i0, ws). next_coordinate i0 ws
    and_then λ (i1, ws). next_coordinate 0 ws and_then λ (j0, ws). next_coordinate j0 ws and_then λ (j1, ws).
    Ok (record { face = face; i0 = i0; i1 = i1; j0 = j0; j1 = j1 }, ws)

-- a rectangle, if any word is left
abbrev pub optional_rect : List (List ℕ) → Taken (Option Rect)
optional_rect [] = Ok (None, [])
optional_rect (w ∷ ws) = next_rect (w ∷ ws) and_then λ (rect, ws). Ok (Some rect, ws)

-- `CELL`
unfoldable pub one_cell : List (List ℕ) → Result ℕ Misfit
one_cell ws = next_cell ws and_then λ (cell, ws). at_end ws cell

-- `FACE I J`, and no other word
unfoldable pub one_place : List (List ℕ) → Result Spot Misfit
one_place ws = next_place ws and_then λ (place, ws). at_end ws place

-- `r`
unfoldable pub one_register : List (List ℕ) → Result ℕ Misfit
one_register ws = next_register ws and_then λ (r, ws). at_end ws r

-- `r s`
unfoldable pub two_registers : List (List ℕ) → Result (ℕ × ℕ) Misfit
two_registers ws = next_register ws and_then λ (r, ws). next_register ws and_then λ (s, ws). at_end ws (r, s)

-- `r CELL`
unfoldable pub register_and_cell : List (List ℕ) → Result (ℕ × ℕ) Misfit
register_and_cell ws = next_register ws and_then λ (r, ws). next_cell ws and_then λ (cell, ws). at_end ws (r, cell)

-- `r CELL..`
unfoldable pub register_and_cells : List (List ℕ) → Result (ℕ × List ℕ) Misfit
register_and_cells ws = next_register ws and_then λ (r, ws). next_cells ws gives λ cells. (r, cells)

-- `r CELL CELL`
unfoldable pub register_and_span : List (List ℕ) → Result (ℕ × RangeEnds) Misfit
register_and_span ws = next_register ws and_then λ (r, ws). next_span ws and_then λ (span, ws). at_end ws (r, span)

-- `r NAME`
unfoldable pub register_and_name : List (List ℕ) → Result (ℕ × List ℕ) Misfit
register_and_name ws = next_register ws and_then λ (r, ws). next_name ws and_then λ (name, ws). at_end ws (r, name)

-- `NAME`
unfoldable pub one_name : List (List ℕ) → Result (List ℕ) Misfit
one_name ws = next_name ws and_then λ (name, ws). at_end ws name

-- `r MIN MOD`
unfoldable pub register_level_modulus : List (List ℕ) → Result (ℕ × ℕ × ℕ) Misfit
register_level_modulus ws = next_register ws and_then λ (r, ws). next_level ws
    and_then λ (least, ws). next_modulus ws and_then λ (modulus, ws). at_end ws (r, least, modulus)

-- `r LEVEL FACE I0 I1 J0 J1`
unfoldable pub register_level_rect : List (List ℕ) → Result (ℕ × ℕ × Rect) Misfit
register_level_rect ws = next_register ws and_then λ (r, ws). next_level ws and_then λ (level, ws). next_rect ws
    and_then λ (rect, ws). at_end ws (r, level, rect)

-- `r s LEVEL`, and nothing or `FACE I0 I1 J0 J1`
unfoldable pub registers_level_rect : List (List ℕ) → Result (ℕ × ℕ × ℕ × Option Rect) Misfit
registers_level_rect ws =
    next_register ws and_then λ (r, ws). next_register ws and_then λ (s, ws). next_level ws
    and_then λ (level, ws). optional_rect ws and_then λ (rect, ws). at_end ws (r, s, level, rect)
