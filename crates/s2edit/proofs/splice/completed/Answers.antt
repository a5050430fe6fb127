use Rattle.std.proofs.Common.{ℕ, sym, subst}
use Rattle.s2edit.specs.Working.Splice.{Completes}
use Rattle.s2edit.proofs.Completing.{completes_own, completes_up}
use Rattle.s2edit.proofs.splice.completed.Goals as goal

pub loop-larger-init : goal.loop-larger-init
loop-larger-init c = record {
  run = c.requires.run;
  completes = completes_own c.args.list.now c.args.run.cell;
}

pub loop-larger-preserved : goal.loop-larger-preserved
loop-larger-preserved c = record {
  run = c.in-Some.ensures.run;
  completes = subst (λ (k : ℕ). Completes c.args.list.now c.args.run.cell k) (sym c.in-Some.ensures.cell)
      (completes_up c.loop-larger.greatest.cell c.loop-larger.invariant.run.is_cell
      c.in-Some.ensures.siblings.deep c.args.list.now c.args.run.cell c.in-Some.ensures.siblings
      c.loop-larger.invariant.completes);
}
