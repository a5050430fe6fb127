use Rattle.std.proofs.Common.{◌≡◌, ◌+◌, ◌-◌, ◌≤◌, ◌<◌, ap, arith, inr, refl, rules, sym, ◌∙◌}
use Rattle.std.proofs.lemmas.Result.{err_from_is_err_and}
use Rattle.s2cell.proofs.Family.{level_of_child}
use Rattle.s2cell.specs.Cell.{IsCell, level_of, place_of}
use Rattle.s2map.proofs.Coverings.{all_visited, met_pushed, more_met, more_within, next_visited, within_pushed}
use Rattle.s2map.proofs.covering.+visit.Goals as goal

pub visit-requires : goal.visit-requires
visit-requires t c =
    let is : IsCell c.args.at.now.cell =
    (level_of c.args.at.now.cell, place_of c.args.at.now.cell, c.id.ensures.cell) in
    let value = c.level.ensures.value in
    let other = c.if-level.false in
    let deep : level_of c.args.at.now.cell + 1 ≤ c.args.level = (let k = c.requires.above in omega arith) in
    let most = c.requires.level in
    let own : level_of c.child-child.result.cell ≡ level_of c.args.at.now.cell + 1 =
    ap level_of c.child-child.ensures.cell
    ∙ level_of_child c.args.at.now.cell c.loop-digit.digit is (omega (arith, deep, most)) c.loop-digit-test.true in
    let above : level_of c.child-child.result.cell ≤ c.args.level = omega (arith, own, deep) in
    let falls : 30 - level_of c.child-child.result.cell < 30 - level_of c.args.at.now.cell =
    omega (arith, own, deep, most) in
    let sorted = c.loop-digit.invariant.0.sorted in
    let boxed = c.child-child.ensures.boxed in
    let near = c.in_ok-near-in-Met.ensures in
    search rules

pub loop-digit-preserved : goal.loop-digit-preserved
loop-digit-preserved t c =
    let child = c.child-child.ensures.cell in
    let found = rw child at c.in_ok-visit-in-Met.ensures.found in (
      next_visited c.args.shape.now c.args.level c.args.at.now.cell c.loop-digit.digit c.args.met.now.items
          c.args.within.now.items c.loop-digit.met.items c.loop-digit.within.items c.visit.new.met.items
          c.visit.new.within.items c.loop-digit.invariant.0 c.in_ok-visit-in-Met.ensures.sorted
          c.in_ok-visit-in-Met.ensures.keeps_met c.in_ok-visit-in-Met.ensures.keeps_within found,
      c.in_ok-visit-in-Met.ensures.few,
    )

pub returns-then-level-clause-sorted : goal.returns-then-level-clause-sorted
returns-then-level-clause-sorted t c =
    let items = c.in_ok-add-in-Met.ensures.added in
    let own : level_of c.args.at.now.cell ≡ c.args.level = sym c.level.ensures.value ∙ c.if-level.true in
    rw items (met_pushed c.args.shape.now c.args.level c.args.met.now.items c.args.within.now.items
    c.args.at.now.cell c.requires.sorted own (c.args.at.now.bounds, c.requires.boxed.of, c.in-Met.ensures.exact))

pub returns-in-Out-clause-found : goal.returns-in-Out-clause-found
returns-in-Out-clause-found t c n h = inr (inr (c.in-Out.ensures.outside refl n h))

pub returns-in_ok-add-in-In-clause-sorted : goal.returns-in_ok-add-in-In-clause-sorted
returns-in_ok-add-in-In-clause-sorted t c =
    let items = c.in_ok-add-in-In.ensures.added in
    rw items (within_pushed c.args.shape.now c.args.level c.args.met.now.items c.args.within.now.items
    c.args.at.now.cell c.requires.sorted (c.in-In.ensures.inside refl))

pub returns-after-loop-digit-clause-found : goal.returns-after-loop-digit-clause-found
returns-after-loop-digit-clause-found t c =
    let is : IsCell c.args.at.now.cell =
    (level_of c.args.at.now.cell, place_of c.args.at.now.cell, c.id.ensures.cell) in
    let value = c.level.ensures.value in
    let other = c.if-level.false in
    let deep : level_of c.args.at.now.cell < 30 =
    (let k = c.requires.above in let l = c.requires.level in omega arith) in
    let visited = c.loop-digit.invariant.0 in
    let end : c.loop-digit.digit ≡ 4 = omega arith in
    all_visited c.args.shape.now c.args.level c.args.at.now.cell c.args.met.now.items c.args.within.now.items
    c.loop-digit.met.items c.loop-digit.within.items (rw end at visited) is deep

pub returns-in_err-add-in-In-clause-fault : goal.returns-in_err-add-in-In-clause-fault
returns-in_err-add-in-In-clause-fault t c =
    let p = err_from_is_err_and c.from_residual.result c.from_residual.ensures.1 in
    let others = c.len.ensures in
    rw (p.1, p.2) (λ so. more_within c.args.shape.now c.args.level c.args.met.now.items c.args.within.now.items
    c.args.at.now.cell c.args.most c.requires.sorted (c.in-In.ensures.inside refl)
    (omega (arith, others, c.in_err-add-in-In.ensures.fault so)))

pub returns-in_err-add-in-Met-clause-fault : goal.returns-in_err-add-in-Met-clause-fault
returns-in_err-add-in-Met-clause-fault t c =
    let p = err_from_is_err_and c.from_residual-in_err-add-in-Met.result
    c.from_residual-in_err-add-in-Met.ensures.1 in
    let others = c.len-then-level.ensures in
    let own : level_of c.args.at.now.cell ≡ c.args.level = sym c.level.ensures.value ∙ c.if-level.true in
    rw (p.1, p.2) (λ so. more_met c.args.shape.now c.args.level c.args.met.now.items c.args.within.now.items
    c.args.at.now.cell c.args.most c.requires.sorted own
    (c.args.at.now.bounds, c.requires.boxed.of, c.in-Met.ensures.exact)
    (omega (arith, others, c.in_err-add-in-Met.ensures.fault so)))
