use Rattle.std.proofs.Common.{◌≡◌, [], ◌++◌, take, ap, sym, ◌∙◌, arith}
use Rattle.std.proofs.lemmas.Grind.{common_steps}
use Rattle.clap.proofs.BuiltLemmas.{on_ok_always}
use Rattle.s2calc.specs.declared.limits.TheConstants.{KEPT}
use Rattle.s2calc.proofs.engine.answer_next.Goals as goal

-- nothing is kept: the line is the beginning of these bytes
pub returns-then-is_empty-clause-answers : goal.returns-then-is_empty-clause-answers
returns-then-is_empty-clause-answers g c =
    let none : c.args.progress.now.kept ≡ [] = grind (arith, common_steps) in
    c.answer_line.ensures.answers _ (c.beginning-line.ensures ∙ ap (λ k. take KEPT (k ++ c.args.end.now)) (sym none))

pub returns-then-is_empty-clause-cleared : goal.returns-then-is_empty-clause-cleared
returns-then-is_empty-clause-cleared g c =
    let none : c.args.progress.now.kept ≡ [] = grind (arith, common_steps) in
    on_ok_always c.answer_line.result none
