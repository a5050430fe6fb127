use Rattle.std.proofs.Common.{◌≡◌, ◌-◌, ◌<◌, ap, arith, ◌∙◌}
use Rattle.s2cell.specs.Cell.{IsCell, level_of, place_of, child_of, parent_of}
use Rattle.s2cover.proofs.Parents.{same_face, child_back}
use Rattle.s2cover.proofs.placing.+placed_cell.Goals as goal

pub returns-then-level-eq0-clause-cell : goal.returns-then-level-eq0-clause-cell
returns-then-level-eq0-clause-cell t c =
    let i : IsCell c.args.cell = (level_of c.args.cell, place_of c.args.cell, c.id.ensures.cell) in
    let top : level_of c.args.cell ≡ 0 = (let e = c.level-level.ensures.value in let z = c.if-level-eq0.true in
    omega arith) in
    same_face c.face-then-level-eq0.ensures.placed.cell
    i c.face-then-level-eq0.ensures.level top (c.face-then-level-eq0.ensures.face ∙ c.face.ensures.value)

pub returns-else-level-eq0-clause-cell : goal.returns-else-level-eq0-clause-cell
returns-else-level-eq0-clause-cell t c =
    let i : IsCell c.args.cell = (level_of c.args.cell, place_of c.args.cell, c.id.ensures.cell) in
    let e = c.level-level.ensures.value in
    let below : 0 < level_of c.args.cell = (let z = c.if-level-eq0.false in omega arith) in
    c.child.ensures.cell ∙ ap (λ z. child_of z c.number.result)
    (c.placed_cell.ensures.cell ∙ c.parent.ensures.value ∙ ap (λ z. parent_of c.args.cell (z - 1)) e)
    ∙ ap (λ z. child_of (parent_of c.args.cell (level_of c.args.cell - 1)) z) c.number.ensures.value
    ∙ child_back i below
