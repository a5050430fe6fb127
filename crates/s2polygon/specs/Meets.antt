-- When an edge meets a square of a face.
use Rattle.std.specs.Prelude.{ℤ, pos, ◌+ℤ◌, ◌-ℤ◌, ◌*ℤ◌, ◌≤ℤ◌, ◌<ℤ◌}
use Rattle.s2polygon.specs.Places.{whole}
use Rattle.s2polygon.specs.declared.frames.Framed.{Framed}
use Rattle.s2polygon.specs.declared.places.Square.{Square}

-- how far a direction is on the right of a column: at least 0 where it is there or on the line
abbrev pub right_of : ℤ → Framed → ℤ
right_of u c = whole *ℤ c.u -ℤ u *ℤ c.w

-- how far it is on the left of a column
abbrev pub left_of : ℤ → Framed → ℤ
left_of u c = u *ℤ c.w -ℤ whole *ℤ c.u

-- how far it is above a row
abbrev pub above : ℤ → Framed → ℤ
above v c = whole *ℤ c.v -ℤ v *ℤ c.w

-- how far it is below a row
abbrev pub below : ℤ → Framed → ℤ
below v c = v *ℤ c.w -ℤ whole *ℤ c.v

-- the direction lies in the closed square
pub record InSquare (c : Framed) (q : Square) : Type 0 where
  pub first_column : pos 0 ≤ℤ right_of q.u0 c
  pub last_column : pos 0 ≤ℤ left_of q.u1 c
  pub first_row : pos 0 ≤ℤ above q.v0 c
  pub last_row : pos 0 ≤ℤ below q.v1 c

-- x times the direction `a`, and y times the direction `b`
abbrev pub mix : ℤ → ℤ → Framed → Framed → Framed
mix x y a b = record { w = x *ℤ a.w +ℤ y *ℤ b.w; u = x *ℤ a.u +ℤ y *ℤ b.u; v = x *ℤ a.v +ℤ y *ℤ b.v }

-- a direction between `a` and `b`, ends included, lies in the square
pub record MeetsSquare (a b : Framed) (q : Square) : Type 0 where
  pub x : ℤ
  pub y : ℤ
  pub x_at_least : pos 0 ≤ℤ x
  pub y_at_least : pos 0 ≤ℤ y
  pub not_both : pos 0 <ℤ (x +ℤ y)
  pub inside : InSquare (mix x y a b) q
