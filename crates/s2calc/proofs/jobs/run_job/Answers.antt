use Rattle.std.proofs.Common.{◌≡◌, ◌∙◌, ◌||◌, ◌≤◌, List, [], Option, ap, arith, rules, sym, unwrap_or, ℕ}
use Rattle.s2calc.specs.CommandLine.{ToExplain, ToPrompt, ToStop, is_wished}
use Rattle.s2calc.proofs.WordWalks.{depth_in_range, depth_read, folder_read, limit_in_range, limit_read, wish_is}
use Rattle.s2calc.proofs.jobs.run_job.Goals as goal
use Rattle.s2calc.proofs.jobs.run_job.Goals.{else-explain, then-explain}

pub returns-then-not-is_in_range-clause-run : goal.returns-then-not-is_in_range-clause-run
returns-then-not-is_in_range-clause-run c = λ choices are has.
    let in_limit = limit_in_range choices are in
    let in_depth = depth_in_range choices are in
    let limit = c.number-limit.ensures _ (limit_read choices _ has) in_limit in
    let depth = c.number-depth.ensures _ (depth_read choices _ has)
    (in_depth.0, in_depth.1, omega (arith, in_depth.2)) in
    let range : (1 ≤ c.number-limit.result) × (c.number-limit.result ≤ 1000000) × (1 ≤ c.number-depth.result)
    × (c.number-depth.result ≤ 10000) = (
      omega (arith, limit, in_limit.1),
      omega (arith, limit, in_limit.2),
      omega (arith, depth, in_depth.1),
      omega (arith, depth, in_depth.2),
    ) in
    absurd (search (rules, range))

pub returns-clause-run : goal.returns-clause-run
returns-clause-run c = λ choices are has.
    let in_limit = limit_in_range choices are in
    let in_depth = depth_in_range choices are in
    let limit = c.number-limit.ensures _ (limit_read choices _ has) in_limit in
    let depth = c.number-depth.ensures _ (depth_read choices _ has)
    (in_depth.0, in_depth.1, omega (arith, in_depth.2)) in
    let explain = wish_is ToExplain choices _ c.get_flag-explain.result has c.get_flag-explain.ensures.value
    c.get_flag-explain.ensures.other in
    let prompt = wish_is ToPrompt choices _ c.get_flag-prompt.result has c.get_flag-prompt.ensures.value
    c.get_flag-prompt.ensures.other in
    let stop = wish_is ToStop choices _ c.get_flag.result has c.get_flag.ensures.value c.get_flag.ensures.other in
    let folder = c.in_ok-text.ensures ∙ ap (λ (o : Option (List ℕ)). unwrap_or o []) (folder_read choices _ has) in
    let shown : c.get_flag-explain.result ≡ is_wished choices ToExplain
    → c.get_flag-prompt.result ≡ is_wished choices ToPrompt
    → c.if-explain.result ≡ (is_wished choices ToExplain || is_wished choices ToPrompt) =
    λ e p. elim c.if-explain.branch [
      | then-explain w ↦ w.result-is ∙ w.if-explain.true
          ∙ sym (ap (λ a. a || is_wished choices ToPrompt) (sym e ∙ w.if-explain.true))
      | else-explain w ↦ w.result-is ∙ p ∙ sym (ap (λ a. a || is_wished choices ToPrompt) (sym e ∙ w.if-explain.false))
    ] in
    (limit, depth, folder, shown explain prompt, prompt, stop)
