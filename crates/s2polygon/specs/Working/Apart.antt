-- When two distances of an edge's ends show that it misses a square.
use Rattle.std.specs.Prelude.{ℤ, pos, ◌<ℤ◌, ◌⊎◌}
use Rattle.s2polygon.specs.Crosses.{side}
use Rattle.s2polygon.specs.Frames.{normal_u_of, normal_v_of}
use Rattle.s2polygon.specs.Tests.{rights, lefts, aboves, belows}
use Rattle.s2polygon.specs.declared.frames.Framed.{Framed}
use Rattle.s2polygon.specs.declared.meeting.Pair.{Pair}
use Rattle.s2polygon.specs.declared.places.Square.{Square}

-- both ends are on the wrong side of a line
abbrev pub AreBehind : Pair → Type 0
AreBehind p = (p.at_a <ℤ pos 0) × (p.at_b <ℤ pos 0)

-- one end is on the wrong side of each line
abbrev pub AreFacing : Pair → Pair → Type 0
AreFacing p q = ((p.at_a <ℤ pos 0) × (q.at_b <ℤ pos 0)) ⊎ ((q.at_a <ℤ pos 0) × (p.at_b <ℤ pos 0))

-- one end is on the wrong side of each line, and the edge turns past the corner between them
abbrev pub AreApart : Pair → Pair → ℤ → Type 0
AreApart p q turn =
    ((p.at_a <ℤ pos 0) × (q.at_b <ℤ pos 0) × (pos 0 <ℤ turn))
    ⊎ ((q.at_a <ℤ pos 0) × (p.at_b <ℤ pos 0) × (turn <ℤ pos 0))

-- no test rejects the edge from `a` to `b` at the square
pub record IsNotRejected (a b : Framed) (q : Square) : Type 0 where
  pub rights_ahead : ¬ (AreBehind (rights q a b))
  pub lefts_ahead : ¬ (AreBehind (lefts q a b))
  pub aboves_ahead : ¬ (AreBehind (aboves q a b))
  pub belows_ahead : ¬ (AreBehind (belows q a b))
  pub right_above : ¬ (AreApart (rights q a b) (aboves q a b) (side q.u0 q.v0 a b))
  pub right_below : ¬ (AreApart (belows q a b) (rights q a b) (side q.u0 q.v1 a b))
  pub left_above : ¬ (AreApart (aboves q a b) (lefts q a b) (side q.u1 q.v0 a b))
  pub left_below : ¬ (AreApart (lefts q a b) (belows q a b) (side q.u1 q.v1 a b))
  pub columns : ¬ (AreApart (lefts q a b) (rights q a b) (normal_v_of a b))
  pub rows : ¬ (AreApart (aboves q a b) (belows q a b) (normal_u_of a b))
