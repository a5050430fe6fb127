use Rattle.std.proofs.Common.{◌≤◌, arith, inl, inr}
use Rattle.std.proofs.lemmas.Bool.{cases_lt}
use Rattle.s2map.proofs.angles.farthest.Goals as goal

pub returns-clause-least : goal.returns-clause-least
returns-clause-least c t m p q z at hx hy = elim (cases_lt c.corner_inward-corner.result t) [
  | inl g ↦
      let s : c.least_by_sine.result ≤ m = c.least_by_sine.ensures.least t m p q z at (omega (arith, g)) hy in
      omega (arith, s)
  | inr l ↦
      let s : c.least_by_cosine.result ≤ m = c.least_by_cosine.ensures.least t m p q z at l hx in
      omega (arith, s)
]
