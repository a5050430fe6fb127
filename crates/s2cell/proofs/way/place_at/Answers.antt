use Rattle.std.proofs.Common.{arith, ◌≡◌, ◌+◌, ◌*◌, ◌/◌, ◌%◌, ◌^◌, ◌<◌, refl, ap}
use Rattle.s2cell.proofs.Walk.{to_place_begin, to_place_one, to_place_two, to_place_four, to_place_small, to_place_end}
use Rattle.s2cell.proofs.Walk.{to_place_levels, between, fours_small, room}
use Rattle.s2cell.proofs.way.place_at.Goals as goal
use Rattle.s2cell.proofs.way.place_at.Goals.{After-every_second_four-4}

pub loop-level-init : goal.loop-level-init
loop-level-init c = to_place_begin c.args.start c.args.leaf _ c.requires.start c.requires.leaf
    (ap (λ z. 16 * z) c.from-shift.ensures)

pub overflow_mul-i : goal.overflow_mul-i
overflow_mul-i c =
    let h = to_place_levels (omega arith) c.loop-level.invariant in
    let i = h.0 in
    omega arith

pub overflow_add-i : goal.overflow_add-i
overflow_add-i c =
    let h = to_place_levels (omega arith) c.loop-level.invariant in
    let i = h.0 in
    let e = c.held_by-quadrant.ensures in
    omega arith

pub overflow_mul-j : goal.overflow_mul-j
overflow_mul-j c =
    let h = to_place_levels (omega arith) c.loop-level.invariant in
    let j = h.1 in
    omega arith

pub overflow_add-j : goal.overflow_add-j
overflow_add-j c =
    let h = to_place_levels (omega arith) c.loop-level.invariant in
    let j = h.1 in
    omega arith

pub loop-level-preserved : goal.loop-level-preserved
loop-level-preserved c =
    let e = c.held_by-quadrant.ensures in
    to_place_one _ _ _ c.loop-level-test.true c.loop-level.invariant (ap (λ z. z % 4) c.without_digits.ensures)
    c.place_step-entry.ensures.entry (ap (λ z. 2 * c.loop-level.i + z / 2) e) (ap (λ z. 2 * c.loop-level.j + z % 2) e)
    c.next_shift-shift.ensures

pub overflow_mul-last : goal.overflow_mul-last
overflow_mul-last c =
    let h = to_place_levels (omega arith) c.loop-level.invariant in
    let i = h.0 in
    omega arith

pub overflow_add-last : goal.overflow_add-last
overflow_add-last c =
    let h = to_place_levels (omega arith) c.loop-level.invariant in
    let i = h.0 in
    let j = h.1 in
    omega arith

pub loop-step-init : goal.loop-step-init
loop-step-init c =
    let e : c.loop-level.level ≡ 2 = omega arith in
    to_place_two _ (rw e at c.loop-level.invariant) refl

pub loop-step-preserved : goal.loop-step-preserved
loop-step-preserved c =
    to_place_four _ _
    c.loop-step-test.true c.loop-step.invariant (ap (λ z. z % 256) c.without_digits-in-loop-step.ensures)
    c.place_entry-entry.ensures (ap (λ z. 256 * c.loop-step.before + z) c.held_by.ensures)
    c.next_shift-shift-in-loop-step.ensures

pub overflow_mul-longer : goal.overflow_mul-longer
overflow_mul-longer c =
    let h = room c.loop-step.step c.loop-step.before (omega arith) c.loop-step.invariant.before_below in
    omega arith

pub overflow_add-longer : goal.overflow_add-longer
overflow_add-longer c =
    let h = room c.loop-step.step c.loop-step.before (omega arith) c.loop-step.invariant.before_below in
    let e = c.held_by.ensures in
    omega arith

pub overflow_mul-result : goal.overflow_mul-result
overflow_mul-result c =
    let h = fours_small (c.loop-step.before / 16) in
    let e = c.every_second_four.ensures in
    omega arith

pub overflow_add-result : goal.overflow_add-result
overflow_add-result c =
    let h = fours_small (c.loop-step.before / 16) in
    let e = c.every_second_four.ensures in
    let g = fours_small (c.loop-step.last / 16) in
    let f = c.every_second_four-2.ensures in
    omega arith

pub overflow_mul-result-2 : goal.overflow_mul-result-2
overflow_mul-result-2 c =
    let h = fours_small c.loop-step.before in
    let e = c.every_second_four-3.ensures in
    omega arith

pub overflow_add-result-2 : goal.overflow_add-result-2
overflow_add-result-2 c =
    let h = fours_small c.loop-step.before in
    let e = c.every_second_four-3.ensures in
    let g = fours_small c.loop-step.last in
    let f = c.every_second_four-4.ensures in
    omega arith

-- what is returned are the coordinates in the two numbers
first : (c : After-every_second_four-4) → 16 * c.every_second_four.result + c.every_second_four-2.result
    ≡ between (c.loop-step.before / 16) (c.loop-step.last / 16)
unfolding between
first c =
    let e = c.every_second_four.ensures in
    let f = c.every_second_four-2.ensures in
    omega arith

second : (c : After-every_second_four-4) →
    16 * c.every_second_four-3.result + c.every_second_four-4.result ≡ between c.loop-step.before c.loop-step.last
unfolding between
second c =
    let e = c.every_second_four-3.ensures in
    let f = c.every_second_four-4.ensures in
    omega arith

below : (c : After-every_second_four-4) → (between (c.loop-step.before / 16) (c.loop-step.last / 16) < 2 ^ 30)
    × (between c.loop-step.before c.loop-step.last < 2 ^ 30)
below c = to_place_small (4 * c.loop-step.step + 2) 30 c.args.start c.args.leaf
    (between (c.loop-step.before / 16) (c.loop-step.last / 16)) (between c.loop-step.before c.loop-step.last)
    (c.loop-step.shift / 16) (omega arith) c.loop-step.invariant.down.way

pub returns-clause-place : goal.returns-clause-place
returns-clause-place c = rw (first c, second c) (to_place_end (4 * c.loop-step.step + 2) c.args.start c.args.leaf
    (between (c.loop-step.before / 16) (c.loop-step.last / 16)) (between c.loop-step.before c.loop-step.last)
    (c.loop-step.shift / 16) (omega arith) c.loop-step.invariant.down.way)

pub returns-clause-i : goal.returns-clause-i
returns-clause-i c = rw (first c) (below c).0

pub returns-clause-j : goal.returns-clause-j
returns-clause-j c = rw (second c) (below c).1
