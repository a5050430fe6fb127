use Rattle.std.proofs.Common.{◌≤◌, arith, inl, inr}
use Rattle.std.proofs.lemmas.Bool.{cases_lt}
use Rattle.s2map.proofs.angles.nearest.Goals as goal

pub returns-then-x-eq0-clause-most : goal.returns-then-x-eq0-clause-most
returns-then-x-eq0-clause-most c t m p q z at hx hy = c.most_by_sine.ensures.most t m p q z at at.east hy

pub returns-then-y-eq0-clause-most : goal.returns-then-y-eq0-clause-most
returns-then-y-eq0-clause-most c t m p q z at hx hy = c.most_by_cosine.ensures.most t m p q z at (omega arith) hx

pub returns-else-y-eq0-clause-most : goal.returns-else-y-eq0-clause-most
returns-else-y-eq0-clause-most c t m p q z at hx hy = elim (cases_lt c.corner_outward-corner.result t) [
  | inl g ↦
      let s : m ≤ c.most_by_cosine-else-y-eq0.result = c.most_by_cosine-else-y-eq0.ensures.most t m p q z at
      (omega (arith, g)) hx in
      omega (arith, s)
  | inr l ↦
      let s : m ≤ c.most_by_sine-else-y-eq0.result = c.most_by_sine-else-y-eq0.ensures.most t m p q z at l hy in
      omega (arith, s)
]
