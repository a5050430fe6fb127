use Rattle.std.proofs.Common.{◌∙◌, refl, ap, arith}
use Rattle.s2list.specs.Union.{has_leaf}
use Rattle.s2list.specs.Search.{IsRunAt}
use Rattle.s2union.proofs.Overlapping.{run_cells, run_itself, run_leaves, run_shares}
use Rattle.s2union.proofs.union.CellUnion.cells_at.Goals as goal

pub returns : goal.returns
returns c =
    let v = c.list.ensures.value in
    let local = c.list.ensures.local in
    let there : IsRunAt c.args.self.now.cells c.args.cell c.cells_at-start.result.0 c.cells_at-start.result.1 =
    rw v at (c.cells_at-start.ensures.run (rw v local)) in
    let run : IsRunAt c.cells.result.now c.args.cell c.cells_at-start.result.0 c.cells_at-start.result.1 =
    rw c.cells.ensures.value there in
    let within = run.within in
    record {
      run = rw c.cells.ensures.value (run_itself c.args.self.now.cells c.args.cell c.cells_at-start.result.0
          c.cells_at-start.result.1 _ there refl);
      leaves = λ x h. run_leaves c.cells.result.now c.args.cell c.cells_at-start.result.0 c.cells_at-start.result.1 _
          run refl x h ∙ ap (λ u. has_leaf u x) c.cells.ensures.value;
      sharing = run_shares c.cells.result.now c.args.cell c.cells_at-start.result.0 c.cells_at-start.result.1 _ run
          refl;
      cells = run_cells c.cells.result.now c.cells_at-start.result.0 _ (rw c.cells.ensures.value local.cells)
          (omega arith);
    }
