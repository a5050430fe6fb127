use Rattle.std.proofs.Common.{◌-◌, ◌*◌, ◌/◌, ◌%◌, ◌^◌, ap, refl, ◌∙◌}
use Rattle.s2cell.specs.Cell.{IsCell, level_of, place_of}
use Rattle.s2cover.proofs.Parents.{shifted}
use Rattle.s2cover.proofs.placing.number.Goals as goal

pub returns-clause-value : goal.returns-clause-value
returns-clause-value c =
    let i : IsCell c.args.cell = (level_of c.args.cell, place_of c.args.cell, c.id.ensures.cell) in
    ap (λ z. z % 4) (ap (λ z. z / 2 ^ (61 - 2 * c.from.result))
    c.id.ensures.value ∙ shifted c.from.result (61 - 2 * c.from.result) (c.from.ensures ∙ c.level.ensures.value) i refl)
