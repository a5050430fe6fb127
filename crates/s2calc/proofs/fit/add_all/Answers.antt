use Rattle.std.proofs.Common.{◌∷◌, [], ◌++◌, take, sym, ap, ◌∙◌, rules, arith, length-take}
use Rattle.std.proofs.lemmas.List.{take_more}
use Rattle.s2calc.proofs.FitLemmas.{grown_picture}
use Rattle.s2calc.proofs.fit.add_all.Goals as goal

pub loop-one-preserved : goal.loop-one-preserved
loop-one-preserved c =
    let i = c.loop-one.one-index in
    let list = c.args.unions.now in
    let more = take_more list i c.one-item.result (search rules)
    ∙ ap (λ x. take i list ++ x ∷ []) (sym c.one-item.is) in (
      search rules,
      grown_picture c.args.part list i c.loop-one.index c.one-item.result _ c.loop-one.invariant.1
          c.in_ok-add_zoomed.ensures.bytes more (omega (arith, length-take i list)) (search rules) (search rules),
    )
