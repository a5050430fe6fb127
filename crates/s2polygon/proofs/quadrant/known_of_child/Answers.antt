use Rattle.std.proofs.Common.{arith, ap, ◌∙◌, ◌-◌, ℕ}
use Rattle.s2polygon.proofs.Indexes.{cell_on_grid, size_some}
use Rattle.s2polygon.proofs.quadrant.known_of_child.Goals as goal

pub overflow_sub-level : goal.overflow_sub-level
overflow_sub-level c = c.level.ensures.most

pub nonzero_div-child : goal.nonzero_div-child
nonzero_div-child c = size_some (cell_on_grid c.requires.placed.cell c.requires.placed.square)

pub nonzero_div-child-2 : goal.nonzero_div-child-2
nonzero_div-child-2 c = size_some (cell_on_grid c.requires.placed.cell c.requires.placed.square)

pub descend-requires-clause-k : goal.descend-requires-clause-k
descend-requires-clause-k c = omega (arith, c.from-k.ensures, c.level.ensures.value, c.requires.inner)

pub descend-requires-clause-i : goal.descend-requires-clause-i
descend-requires-clause-i c =
    let k = c.from-k.ensures ∙ ap (λ (n : ℕ). 30 - n) c.level.ensures.value in
    let i = c.from-i.ensures in
    rw (k, i) (cell_on_grid c.requires.placed.cell c.requires.placed.square).column_within

pub descend-requires-clause-j : goal.descend-requires-clause-j
descend-requires-clause-j c =
    let k = c.from-k.ensures ∙ ap (λ (n : ℕ). 30 - n) c.level.ensures.value in
    let j = c.from-j.ensures in
    rw (k, j) (cell_on_grid c.requires.placed.cell c.requires.placed.square).row_within

pub descend-requires-clause-margin : goal.descend-requires-clause-margin
descend-requires-clause-margin c = c.requires.margin

pub descend-requires-clause-framed : goal.descend-requires-clause-framed
descend-requires-clause-framed c = c.requires.framed

pub descend-requires-clause-within : goal.descend-requires-clause-within
descend-requires-clause-within c = c.requires.within

pub returns-clause-right : goal.returns-clause-right
returns-clause-right c top edges n right =
    let k = c.from-k.ensures ∙ ap (λ (n : ℕ). 30 - n) c.level.ensures.value in
    let i = c.from-i.ensures in
    let j = c.from-j.ensures in
    rw (k, i, j) at (c.descend.ensures.right top edges n) right

pub returns-clause-within : goal.returns-clause-within
returns-clause-within c = c.descend.ensures.within
