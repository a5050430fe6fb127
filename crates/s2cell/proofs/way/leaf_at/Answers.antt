use Rattle.std.proofs.Common.{arith, ◌+◌, ◌*◌, ◌/◌, ◌∙◌, ap}
use Rattle.s2cell.proofs.Walk.{to_leaf_begin, to_leaf_one, to_leaf_four, to_leaf_small, to_leaf_end, fours_small}
use Rattle.s2cell.specs.Working.Entries.{fours}
use Rattle.s2cell.proofs.way.leaf_at.Goals as goal

pub overflow_mul-odd : goal.overflow_mul-odd
overflow_mul-odd c = let h = fours_small (c.args.i / 16) in let e = c.every_second_four.ensures in omega arith

pub overflow_add-odd : goal.overflow_add-odd
overflow_add-odd c =
    let h = fours_small (c.args.i / 16) in
    let e = c.every_second_four.ensures in
    let g = fours_small (c.args.j / 16) in
    let f = c.every_second_four-2.ensures in
    omega arith

pub overflow_mul-even : goal.overflow_mul-even
overflow_mul-even c = let h = fours_small c.args.i in let e = c.every_second_four-3.ensures in omega arith

pub overflow_add-even : goal.overflow_add-even
overflow_add-even c =
    let h = fours_small c.args.i in
    let e = c.every_second_four-3.ensures in
    let g = fours_small c.args.j in
    let f = c.every_second_four-4.ensures in
    omega arith

pub loop-level-init : goal.loop-level-init
loop-level-init c = to_leaf_begin c.args.start c.args.i c.args.j _ c.requires.start c.requires.i c.requires.j
    (ap (λ z. 16 * z) c.from-shift.ensures)

pub overflow_mul-leaf : goal.overflow_mul-leaf
overflow_mul-leaf c =
    let h = to_leaf_small c.loop-level.level 2 c.args.start c.loop-level.leaf c.args.i c.args.j
    (c.loop-level.shift / 16) (omega arith) c.loop-level.invariant.way in
    omega arith

pub overflow_add-leaf : goal.overflow_add-leaf
overflow_add-leaf c =
    let h = to_leaf_small c.loop-level.level 2 c.args.start c.loop-level.leaf c.args.i c.args.j
    (c.loop-level.shift / 16) (omega arith) c.loop-level.invariant.way in
    let e = c.held_by.ensures in
    let f = c.from.ensures in
    omega arith

pub loop-level-preserved : goal.loop-level-preserved
loop-level-preserved c =
    to_leaf_one c.quadrant_at.result _ _
    c.loop-level-test.true c.loop-level.invariant c.quadrant_at.ensures c.leaf_step-entry.ensures
    (ap (λ z. 4 * c.loop-level.leaf + z) (c.from.ensures ∙ c.held_by.ensures)) c.next_shift-shift.ensures

pub overflow_mul-leaf-in-loop-step : goal.overflow_mul-leaf-in-loop-step
overflow_mul-leaf-in-loop-step c =
    let h = to_leaf_small (4 * c.loop-step.step + 2) 26 c.args.start c.loop-step.leaf c.args.i c.args.j
    (c.loop-step.shift / 16) (omega arith) c.loop-step.invariant.way in
    omega arith

pub overflow_add-leaf-in-loop-step : goal.overflow_add-leaf-in-loop-step
overflow_add-leaf-in-loop-step c =
    let h = to_leaf_small (4 * c.loop-step.step + 2) 26 c.args.start c.loop-step.leaf c.args.i c.args.j
    (c.loop-step.shift / 16) (omega arith) c.loop-step.invariant.way in
    let e = c.held_by-in-loop-step.ensures in
    let f = c.from-in-loop-step.ensures in
    omega arith

pub loop-step-preserved : goal.loop-step-preserved
loop-step-preserved c =
    to_leaf_four c.loop-step.step _ _ c.four_of_each.result _ _ c.loop-step-test.true c.loop-step.invariant
    (ap (λ z. 16 * z + c.every_second_four-2.result) c.every_second_four.ensures
    ∙ ap (λ z. 16 * fours (c.args.i / 16) + z) c.every_second_four-2.ensures)
    (ap (λ z. 16 * z + c.every_second_four-4.result) c.every_second_four-3.ensures
    ∙ ap (λ z. 16 * fours c.args.i + z) c.every_second_four-4.ensures)
    c.four_of_each.ensures.even c.four_of_each.ensures.odd c.leaf_entry-entry.ensures
    (ap (λ z. 256 * c.loop-step.leaf + z) (c.from-in-loop-step.ensures ∙ c.held_by-in-loop-step.ensures))
    c.next_shift-shift-in-loop-step.ensures

pub returns-clause-place : goal.returns-clause-place
returns-clause-place c = to_leaf_end (4 * c.loop-step.step + 2) c.args.start c.loop-step.leaf c.args.i c.args.j
    (c.loop-step.shift / 16) (omega arith) c.loop-step.invariant.way

pub returns-clause-leaf : goal.returns-clause-leaf
returns-clause-leaf c = to_leaf_small (4 * c.loop-step.step + 2) 30 c.args.start c.loop-step.leaf c.args.i c.args.j
    (c.loop-step.shift / 16) (omega arith) c.loop-step.invariant.way
