use Rattle.std.proofs.Common.{refl, sym, ◌∙◌}
use Rattle.std.proofs.lemmas.Bool.{false≢true}
use Rattle.s2union.specs.Working.Merge.{Left}
use Rattle.s2list.proofs.Checking.{packed_from_local}
use Rattle.s2union.proofs.Ending.{seen_none, seen_write, unfit_cell, can_from, fits_all}
use Rattle.s2union.proofs.Passing.{seen_run, unfit_run}
use Rattle.s2union.proofs.apply.fits_cells.Goals as goal

pub new-merge-requires-clause-cells_packed : goal.new-merge-requires-clause-cells_packed
new-merge-requires-clause-cells_packed c = packed_from_local c.args.cells.now c.requires.local

pub loop-merge-init : goal.loop-merge-init
loop-merge-init c = rw (c.new-merge.ensures, c.new-tail.ensures) (seen_none _)

pub returns-then-not-pass : goal.returns-then-not-pass
returns-then-not-pass c = (
  λ e. absurd (false≢true e),
  λ f. absurd (unfit_run
      _ c.loop-merge.invariant c.run-run.ensures.keeps c.pass.ensures (λ e. false≢true (sym c.if-not-pass.true ∙ e)) f),
)

pub returns-then-not-takes : goal.returns-then-not-takes
returns-then-not-takes c =
    let start : Left = record { out = c.args.out.now; put = c.args.put.now; cells = c.args.cells.now } in
    let seen = seen_run _ c.loop-merge.invariant c.run-run.ensures.keeps c.pass.ensures c.if-not-pass.false in (
      λ e. absurd (false≢true e),
      λ f. absurd (unfit_cell c.in-Write.cell seen c.in-Write.ensures.turn
          (λ g. false≢true (sym c.if-not-takes.true ∙ c.takes.ensures.exact.1 g)) f),
    )

pub loop-merge-preserved-in-Write : goal.loop-merge-preserved-in-Write
loop-merge-preserved-in-Write c =
    let start : Left = record { out = c.args.out.now; put = c.args.put.now; cells = c.args.cells.now } in
    let seen = seen_run _ c.loop-merge.invariant c.run-run.ensures.keeps c.pass.ensures c.if-not-pass.false in
    rw c.push.ensures
    (seen_write seen c.in-Write.ensures.turn c.takes.ensures.is_cell (c.takes.ensures.exact.0 c.if-not-takes.false))

pub loop-merge-preserved : goal.loop-merge-preserved
loop-merge-preserved c =
    let start : Left = record { out = c.args.out.now; put = c.args.put.now; cells = c.args.cells.now } in
    let seen = seen_run _ c.loop-merge.invariant c.run-run.ensures.keeps c.pass.ensures c.if-not-pass.false in
    let g = c.in-Skip.ensures.turn in
    record {
      back = seen.back;
      ends = seen.ends;
      packed = seen.packed;
      same = (λ h. g.same.0 (seen.same.0 h), λ h. seen.same.1 (g.same.1 h));
      gives = λ h. rw (← g.gives (seen.same.0 h)) (seen.gives h);
    }

pub returns-in-Misfit : goal.returns-in-Misfit
returns-in-Misfit c =
    let start : Left = record { out = c.args.out.now; put = c.args.put.now; cells = c.args.cells.now } in
    let seen = seen_run _ c.loop-merge.invariant c.run-run.ensures.keeps c.pass.ensures c.if-not-pass.false in (
      λ e. absurd (false≢true e),
      λ f. absurd (c.in-Misfit.ensures.turn (seen.same.0 (can_from f))),
    )

pub returns-in-End : goal.returns-in-End
returns-in-End c =
    let start : Left = record { out = c.args.out.now; put = c.args.put.now; cells = c.args.cells.now } in
    let seen = seen_run _ c.loop-merge.invariant c.run-run.ensures.keeps c.pass.ensures c.if-not-pass.false in (
      λ _. fits_all c.args.out.now c.args.put.now c.args.cells.now c.requires.out_ascends c.requires.put_ascends seen
          c.in-End.ensures.turn.0 c.in-End.ensures.turn.1,
      λ _. refl,
    )
