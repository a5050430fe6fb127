use Rattle.std.proofs.Common.{◌&&◌, sym, ◌∙◌, ap}
use Rattle.std.proofs.lemmas.Bool.{false≢true}
use Rattle.s2cell.specs.Cell.{level_of, place_of}
use Rattle.s2cell.specs.Rectangles.{rect_set}
use Rattle.s2cover.proofs.Regions.{across}
use Rattle.s2cover.proofs.union.part_across.Goals as goal
use Rattle.s2cover.proofs.union.part_across.Goals.{else-not-contains_cell-via-then-not-contains_cell+else-lie_outside}
use Rattle.s2cover.proofs.union.part_across.Goals.{else-not-contains_cell-via-else-not-contains_cell}

pub returns-else-not-contains_cell-clause-out : goal.returns-else-not-contains_cell-clause-out
returns-else-not-contains_cell-clause-out c =
    let S = rect_set c.args.rect.now in
    let u = c.args.union.now.cells in (
      λ e. cc,
      λ h. elim c.else-not-contains_cell.branch [
        | else-not-contains_cell-via-then-not-contains_cell+else-lie_outside w ↦
            absurd (across u S w.cells_at.result.now c.args.cell
            (level_of c.args.cell, place_of c.args.cell, c.id.ensures.cell) w.cells_at.ensures.leaves
            w.cells_at.ensures.sharing w.cells_at.ensures.cells
            (λ p. false≢true (sym w.if-not-contains_cell.true ∙ c.contains_cell.ensures.1 p))
            (λ p. false≢true (sym w.if-lie_outside.false ∙ w.lie_outside.ensures.1 p)) h)
        | else-not-contains_cell-via-else-not-contains_cell w ↦
            absurd (c.requires.some (λ x v.
            sym (ap (λ b. b && S x) (c.contains_cell.ensures.0 w.if-not-contains_cell.false x v)) ∙ h x v))
      ],
    )
