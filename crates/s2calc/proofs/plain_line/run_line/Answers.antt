use Rattle.std.proofs.Common.{◌∙◌, ap₂}
use Rattle.std.proofs.lemmas.Result.{IfOk-weaker}
use Rattle.clap.specs.Words.{with_rule}
use Rattle.s2calc.proofs.plain_line.run_line.Goals as goal

pub returns : goal.returns
returns c =
    let limit = c.in_ok-arg.ensures.shape c.limit.ensures.local
    ∙ ap₂ with_rule c.new.ensures.app c.limit.ensures.rule in
    let depth = c.in_ok-arg-2.ensures.shape c.depth.ensures.local ∙ ap₂ with_rule limit c.depth.ensures.rule in
    let dir = c.in_ok-arg-3.ensures.shape c.folder.ensures.local ∙ ap₂ with_rule depth c.folder.ensures.rule in
    let explain = c.in_ok-arg-4.ensures.shape c.explain.ensures.local ∙ ap₂ with_rule dir c.explain.ensures.rule in
    let prompt = c.in_ok-arg-5.ensures.shape c.prompt.ensures.local ∙ ap₂ with_rule explain c.prompt.ensures.rule in
    IfOk-weaker c.arg-6.result _ _
    (λ command added. added.shape c.stop.ensures.local ∙ ap₂ with_rule prompt c.stop.ensures.rule) c.arg-6.ensures
