use Rattle.std.proofs.Common.{ℕ, List, map, sym, ap, ◌∙◌, subst}
use Rattle.std.proofs.lemmas.Result.{err_from_is_err_and}
use Rattle.s2edit.specs.Diff.{Diff}
use Rattle.s2edit.specs.Content.{diff_of}
use Rattle.s2edit.specs.Working.InTurn.{of_register, list_after_all, FitInTurn}
use Rattle.s2edit.proofs.Following.{fails}
use Rattle.s2edit.proofs.Turns.{part_needs, part_gives, part_fits, part_makes}
use Rattle.s2edit.proofs.restore.fitting.follow_batch.Goals as goal

pub returns-in_err-follow_each-clause-answer : goal.returns-in_err-follow_each-clause-answer
returns-in_err-follow_each-clause-answer c =
    let ds : List Diff = of_register c.args.register (map diff_of c.args.moves.now) in
    let p = err_from_is_err_and c.from_residual-in_err-follow_each.result
    c.from_residual-in_err-follow_each.ensures.1 in
    rw (p.1, p.2) (fails c.in_err-follow_each.field-0.0 (FitInTurn c.in_ok-after.after.cells ds)
    (FitInTurn c.args.list.now.cells ds)
    (λ f. subst (λ (v : List ℕ). FitInTurn v ds) (sym c.in_ok-after.ensures)
    (part_needs ds c.args.list.now.cells c.in_ok-before.before.cells c.in_ok-before.ensures f))
    c.in_err-follow_each.ensures.answer)

pub make-requires : goal.make-requires
make-requires c =
    let ds : List Diff = of_register c.args.register (map diff_of c.args.moves.now) in
    rw (
      c.deref.ensures.value,
      c.deref-2.ensures.value,
      c.in_ok-out.ensures.out,
      c.in_ok-out.ensures.put,
      c.cells-2.ensures.value,
      c.cells-3.ensures.value,
    )
    (part_fits ds c.args.list.now.cells c.in_ok-before.before.cells c.in_ok-before.ensures
    (subst (λ (v : List ℕ). FitInTurn v ds) c.in_ok-after.ensures c.in_ok-follow_each.ensures.answer) _
    (c.in_ok-follow_each.ensures.after ∙ ap (λ (v : List ℕ). list_after_all v ds) c.in_ok-after.ensures))

pub returns-clause-after : goal.returns-clause-after
returns-clause-after c =
    let ds : List Diff = of_register c.args.register (map diff_of c.args.moves.now) in
    (rw (
      c.deref.ensures.value,
      c.deref-2.ensures.value,
      c.in_ok-out.ensures.out,
      c.in_ok-out.ensures.put,
      c.cells-2.ensures.value,
      c.cells-3.ensures.value,
    ) at c.in_ok-make.ensures)
    ∙ part_makes ds c.args.list.now.cells c.in_ok-before.before.cells c.in_ok-before.ensures
    (subst (λ (v : List ℕ). FitInTurn v ds) c.in_ok-after.ensures c.in_ok-follow_each.ensures.answer) _
    (c.in_ok-follow_each.ensures.after ∙ ap (λ (v : List ℕ). list_after_all v ds) c.in_ok-after.ensures)

pub returns-clause-answer : goal.returns-clause-answer
returns-clause-answer c =
    let ds : List Diff = of_register c.args.register (map diff_of c.args.moves.now) in
    part_gives ds c.args.list.now.cells c.in_ok-before.before.cells c.in_ok-before.ensures
    (subst (λ (v : List ℕ). FitInTurn v ds) c.in_ok-after.ensures c.in_ok-follow_each.ensures.answer)
