use Rattle.std.proofs.Common.{◌≤◌, refl, rules}
use Rattle.std.proofs.lemmas.List.{take_all}
use Rattle.std.proofs.lemmas.List.Filters.{dedup_is, All-dedup}
use Rattle.s2cell.specs.Cell.{level_of}
use Rattle.s2draw.proofs.image.cells_to_draw.Goals as goal

pub returns-clause-cells : goal.returns-clause-cells
returns-clause-cells c = rw (
  dedup_is _ _ _ c.dedup.ensures.filtered,
  c.loop-cell.invariant.0,
  take_all c.loop-cell.cell-index c.args.cells.now (search rules),
) refl

pub returns-clause-levels : goal.returns-clause-levels
returns-clause-levels c = rw (dedup_is _ _ _ c.dedup.ensures.filtered)
    (All-dedup _ (λ k. level_of k ≤ c.args.deepest) _ c.loop-cell.invariant.1)
