use Rattle.std.proofs.Common.{◌∷◌, [], map, refl, arith}
use Rattle.std.proofs.lemmas.Result.{err_from_is_err_and}
use Rattle.s2edit.specs.Content.{diff_of}
use Rattle.s2edit.specs.Working.InTurn.{of_register, FitInTurn}
use Rattle.s2edit.proofs.Following.{fails}
use Rattle.s2edit.proofs.Turns.{one_move, one_goes, one_needs, all_gone, all_fit}
use Rattle.s2edit.proofs.restore.fitting.follow_each.Goals as goal

pub loop-change-init : goal.loop-change-init
loop-change-init c = record { fit = λ f. f; back = λ f. f; same = refl }

pub follow_one-requires : goal.follow_one-requires
follow_one-requires c = one_move c.args.moves.now c.loop-change.change-index c.change-item.result
    c.loop-change-test.true c.change-item.is c.requires.each

pub returns-in_err-follow_one-clause-answer : goal.returns-in_err-follow_one-clause-answer
returns-in_err-follow_one-clause-answer c =
    let r = c.args.register in
    let p = err_from_is_err_and c.from_residual.result c.from_residual.ensures.1 in
    rw (p.1, p.2) (fails c.in_err-follow_one.field-0.0
    (FitInTurn c.loop-change.list.cells (of_register r (diff_of c.change-item.result ∷ [])))
    (FitInTurn c.args.list.now.cells (of_register r (map diff_of c.args.moves.now)))
    (one_needs c.args.list.now.cells r c.args.moves.now c.loop-change.list.cells c.loop-change.change-index
    c.change-item.result c.loop-change-test.true c.change-item.is c.loop-change.invariant)
    c.in_err-follow_one.ensures.answer)

pub loop-change-preserved : goal.loop-change-preserved
loop-change-preserved c = one_goes c.args.list.now.cells c.args.register c.args.moves.now c.loop-change.list.cells
    c.loop-change.change-index c.change-item.result c.loop-change-test.true c.change-item.is c.loop-change.invariant
    c.follow_one.new.list.cells c.in_ok-follow_one.ensures.answer c.in_ok-follow_one.ensures.after

pub returns-clause-after : goal.returns-clause-after
returns-clause-after c = all_gone c.args.list.now.cells c.args.register c.args.moves.now c.loop-change.list.cells
    c.loop-change.change-index (omega (arith, c.loop-change-test.false)) c.loop-change.invariant

pub returns-clause-answer : goal.returns-clause-answer
returns-clause-answer c = all_fit c.args.list.now.cells c.args.register c.args.moves.now c.loop-change.list.cells
    c.loop-change.change-index (omega (arith, c.loop-change-test.false)) c.loop-change.invariant
