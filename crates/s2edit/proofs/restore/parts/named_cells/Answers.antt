use Rattle.std.proofs.Common.{List, map, sym, subst, arith}
use Rattle.std.proofs.lemmas.List.{drop_all}
use Rattle.std.specs.List.{AllByRecursion}
use Rattle.s2union.specs.Apply.{has}
use Rattle.s2edit.specs.declared.content.Move.{Move}
use Rattle.s2edit.specs.Content.{diff_of}
use Rattle.s2edit.specs.Working.InTurn.{of_register}
use Rattle.s2edit.specs.Working.Part.{HoldsNamed}
use Rattle.s2edit.proofs.Watching.{holds_more, next_held}
use Rattle.s2edit.proofs.restore.parts.named_cells.Goals as goal

pub loop-change-init : goal.loop-change-init
loop-change-init c T w a = a

pub loop-change-preserved : goal.loop-change-preserved
loop-change-preserved c T w a = c.loop-change.invariant T (λ x h. w x (c.in_ok-name_cells.ensures.kept x h))
    (next_held c.args.register c.args.moves.now c.loop-change.change-index c.change-item.result
    c.loop-change-test.true c.change-item.is (λ e. holds_more w (c.in_ok-name_cells.ensures.each e)) a)

pub returns : goal.returns
returns c = c.loop-change.invariant (has c.loop-change.named.items) (λ x h. h)
    (subst (λ (l : List Move). AllByRecursion (HoldsNamed (has c.loop-change.named.items))
    (of_register c.args.register (map diff_of l)))
    (sym (drop_all c.loop-change.change-index c.args.moves.now (omega (arith, c.loop-change-test.false)))) tt)
