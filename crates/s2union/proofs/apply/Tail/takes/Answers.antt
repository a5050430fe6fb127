use Rattle.std.proofs.lemmas.Bool.{false≢true}
use Rattle.s2union.proofs.apply.Tail.takes.Goals as goal

pub returns-in-Some-parent_of_family-clause-exact : goal.returns-in-Some-parent_of_family-clause-exact
returns-in-Some-parent_of_family-clause-exact c = (
  λ e. absurd (false≢true e),
  λ f.
      let is = rw (c.id-2.ensures.value, c.id-3.ensures.value, c.id-4.ensures.value) at
      c.in-Some-parent_of_family.ensures in
      absurd (f.unmerged c.in-Some-third.third c.in-Some-second.second c.in-Some.last
      c.in-Some-parent_of_family.field-0 c.in-Some-third.is c.in-Some-second.is c.in-Some.is is),
)
