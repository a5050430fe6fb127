use Rattle.std.proofs.Common.{◌+◌, ◌-◌, map, take, drop, refl, length-drop, arith}
use Rattle.std.proofs.lemmas.Result.{err_from_is_err_and}
use Rattle.s2edit.specs.Content.{diff_of}
use Rattle.s2edit.specs.Working.InTurn.{of_register, FitInTurn}
use Rattle.s2edit.proofs.Following.{fails}
use Rattle.s2edit.proofs.Turns.{each_between, batch_goes, batch_needs, all_fit}
use Rattle.s2edit.proofs.restore.fitting.follow_batches.Goals as goal

pub loop-done-init : goal.loop-done-init
loop-done-init c = record { within = omega arith; goes = record { fit = λ f. f; back = λ f. f; same = refl } }

pub follow_batch-requires : goal.follow_batch-requires
follow_batch-requires c = record {
  each = each_between c.args.moves.now c.loop-done.done (c.loop-done.done + c.max.result - c.loop-done.done)
      c.requires.each;
}

pub returns-in_err-follow_batch : goal.returns-in_err-follow_batch
returns-in_err-follow_batch c =
    let i = c.loop-done.done in
    let n = i + c.max.result - i in
    let ms = c.args.moves.now in
    let r = c.args.register in
    let p = err_from_is_err_and c.from_residual.result c.from_residual.ensures.1 in
    rw (p.1, p.2) (fails c.in_err-follow_batch.field-0.0
    (FitInTurn c.loop-done.list.cells (of_register r (map diff_of (take n (drop i ms)))))
    (FitInTurn c.args.list.cells (of_register r (map diff_of ms)))
    (batch_needs c.args.list.cells r ms c.loop-done.list.cells i c.max.result n (omega arith)
    c.loop-done.invariant.goes)
    c.in_err-follow_batch.ensures.answer)

pub loop-done-preserved : goal.loop-done-preserved
loop-done-preserved c =
    let i = c.loop-done.done in
    let ms = c.args.moves.now in
    record {
      within = omega (arith, c.count_followed.ensures, c.max.ensures, length-drop i ms, c.loop-done-test.true);
      goes = batch_goes c.args.list.cells c.args.register ms c.loop-done.list.cells i c.max.result
          (i + c.max.result - i) (omega arith) c.loop-done.invariant.goes c.follow_batch.new.list.cells
          c.in_ok-follow_batch.ensures.answer c.in_ok-follow_batch.ensures.after;
    }

pub returns : goal.returns
returns c = all_fit c.args.list.cells c.args.register c.args.moves.now c.loop-done.list.cells c.loop-done.done
    (omega (arith, c.loop-done-test.false)) c.loop-done.invariant.goes
