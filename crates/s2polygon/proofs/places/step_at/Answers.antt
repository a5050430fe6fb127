use Rattle.std.proofs.Common.{arith}
use Rattle.s2polygon.proofs.Sides.{half_in_face, step_is}
use Rattle.s2polygon.proofs.places.step_at.Goals as goal

pub overflow_add-k : goal.overflow_add-k
overflow_add-k c = omega (arith, c.requires.k)

pub middle_at-from_u-requires-clause-k : goal.middle_at-from_u-requires-clause-k
middle_at-from_u-requires-clause-k c = omega (arith, c.requires.k)

pub middle_at-from_u-requires-clause-i : goal.middle_at-from_u-requires-clause-i
middle_at-from_u-requires-clause-i c = half_in_face c.args.k c.args.i c.requires.k c.requires.i

pub overflow_add-k-2 : goal.overflow_add-k-2
overflow_add-k-2 c = omega (arith, c.requires.k)

pub middle_at-from_v-requires-clause-k : goal.middle_at-from_v-requires-clause-k
middle_at-from_v-requires-clause-k c = omega (arith, c.requires.k)

pub middle_at-from_v-requires-clause-i : goal.middle_at-from_v-requires-clause-i
middle_at-from_v-requires-clause-i c = half_in_face c.args.k c.args.j c.requires.k c.requires.j

pub middle_at-to_u-requires-clause-k : goal.middle_at-to_u-requires-clause-k
middle_at-to_u-requires-clause-k c = omega (arith, c.requires.k)

pub middle_at-to_u-requires-clause-i : goal.middle_at-to_u-requires-clause-i
middle_at-to_u-requires-clause-i c = c.requires.i

pub middle_at-to_v-requires-clause-k : goal.middle_at-to_v-requires-clause-k
middle_at-to_v-requires-clause-k c = omega (arith, c.requires.k)

pub middle_at-to_v-requires-clause-i : goal.middle_at-to_v-requires-clause-i
middle_at-to_v-requires-clause-i c = c.requires.j

pub line_at-requires-clause-at : goal.line_at-requires-clause-at
line_at-requires-clause-at c = c.middle_at-from_v.ensures.most

pub line_at-requires-clause-from : goal.line_at-requires-clause-from
line_at-requires-clause-from c = c.middle_at-from_u.ensures.most

pub line_at-requires-clause-to : goal.line_at-requires-clause-to
line_at-requires-clause-to c = c.middle_at-to_u.ensures.most

pub line_at-requires-2-clause-at : goal.line_at-requires-2-clause-at
line_at-requires-2-clause-at c = c.middle_at-to_u.ensures.most

pub line_at-requires-2-clause-from : goal.line_at-requires-2-clause-from
line_at-requires-2-clause-from c = c.middle_at-from_v.ensures.most

pub line_at-requires-2-clause-to : goal.line_at-requires-2-clause-to
line_at-requires-2-clause-to c = c.middle_at-to_v.ensures.most

pub returns-clause-value : goal.returns-clause-value
returns-clause-value c =
    step_is c.args.k c.args.i c.args.j c.line_at.result c.line_at-2.result c.middle_at-from_u.result
    c.middle_at-from_v.result c.middle_at-to_u.result c.middle_at-to_v.result
    c.middle_at-from_u.ensures.value c.middle_at-from_v.ensures.value c.middle_at-to_u.ensures.value
    c.middle_at-to_v.ensures.value c.line_at.ensures.value c.line_at-2.ensures.value

pub returns-clause-places : goal.returns-clause-places
returns-clause-places c = record { row = c.line_at.ensures.places; column = c.line_at-2.ensures.places }
