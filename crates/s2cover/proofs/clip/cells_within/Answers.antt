use Rattle.std.proofs.Common.{arith, ◌≡◌, ◌+◌, ◌-◌, ◌*◌, length, length-append, vec_len, ◌∙◌, ap}
use Rattle.std.proofs.lemmas.Result.{err_from_is_err_and}
use Rattle.s2cell.specs.Rectangles.{rect_set}
use Rattle.s2cover.specs.Working.Descent.{depth_of, form_in}
use Rattle.s2cover.proofs.Parts.{gathered_next, gathered_many}
use Rattle.s2cover.proofs.Searches.{added_next, added_stop}
use Rattle.s2cover.proofs.clip.cells_within.Goals as goal

pub loop-cell-preserved : goal.loop-cell-preserved
loop-cell-preserved c =
    let f = form_in (rect_set c.args.rect.now) (30 - c.args.level) in
    let cell = c.placed_cell.result.cell in
    let old_len = c.loop-cell.list.ok.0 in
    let new_len = c.seek.new.list.ok.0 in
    let both = ap length c.in_ok-seek.ensures.list ∙ length-append c.loop-cell.list.items (f cell) in
    let len : vec_len c.seek.new.list ≡ vec_len c.loop-cell.list + length (f cell) = omega arith in (
      gathered_next c.args.cells.now c.loop-cell.cell-index cell _ c.seek.new.list.items
          (vec_len c.seek.new.list) c.loop-cell-test.true (c.placed_cell.ensures.cell ∙ c.cell-item.is)
          c.loop-cell.invariant.0 c.in_ok-seek.ensures.list c.in_ok-seek.ensures.room,
      rw len (added_next c.seek.new.looks.count (length (f cell)) (depth_of cell - (30 - c.args.level))
          (omega arith) c.loop-cell.invariant.1 c.in_ok-seek.ensures.most c.in_ok-seek.ensures.least),
    )

pub returns-in_err-seek-clause-many : goal.returns-in_err-seek-clause-many
returns-in_err-seek-clause-many c =
    let p = err_from_is_err_and c.from_residual.result c.from_residual.ensures.1 in
    rw (p.1, p.2) (λ e. gathered_many c.args.cells.now c.loop-cell.cell-index
    c.placed_cell.result.cell _ c.loop-cell-test.true (c.placed_cell.ensures.cell ∙ c.cell-item.is)
    c.loop-cell.invariant.0 c.loop-cell.list.ok.0 (c.in_err-seek.ensures.many e))

pub seek-requires-clause-looks : goal.seek-requires-clause-looks
seek-requires-clause-looks c =
    let s = depth_of c.placed_cell.result.cell - (30 - c.args.level) in
    let most = added_stop (c.loop-cell.looks.count + 1 + 4 * s * (c.args.max - vec_len c.loop-cell.list + 1)) s
    c.args.max (omega arith) c.loop-cell.invariant.0.few c.loop-cell-test.true c.loop-cell.invariant.1
    (omega arith) in
    omega (arith, c.requires.looks)

pub returns-in_err-seek-clause-stopped : goal.returns-in_err-seek-clause-stopped
returns-in_err-seek-clause-stopped c =
    let p = err_from_is_err_and c.from_residual.result c.from_residual.ensures.1 in
    rw p.1 (added_stop _ (depth_of c.placed_cell.result.cell - (30 - c.args.level)) c.args.max (omega arith)
    c.loop-cell.invariant.0.few c.loop-cell-test.true c.loop-cell.invariant.1 c.in_err-seek.ensures.stopped)
