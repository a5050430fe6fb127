use Rattle.std.proofs.Common.{arith, rules, FitsSigned, w64, to_z, of_z, ◌∙◌, ◌+ℤ◌, ◌*ℤ◌, pos, unsigned_abs}
use Rattle.std.proofs.lemmas.Int.{ints, to_z-of_z}
use Rattle.s2polygon.proofs.Between.{between_farthest, between_units, cast_fits, near_passed, passed_short}
use Rattle.s2polygon.proofs.boxes.span_of.Goals as goal

pub is_far-requires-clause-x : goal.is_far-requires-clause-x
is_far-requires-clause-x c = passed_short c.args.x c.requires.x

pub is_far-requires-clause-w : goal.is_far-requires-clause-w
is_far-requires-clause-w c = passed_short c.args.w c.requires.w

pub overflow_sub-result : goal.overflow_sub-result
overflow_sub-result c = omega (arith, ints)

pub returns-then-is_far : goal.returns-then-is_far
returns-then-is_far c = between_farthest _ _ c.args.w c.args.x (omega (arith, ints)) (omega (arith, ints))

pub overflow_mul-w : goal.overflow_mul-w
overflow_mul-w c =
    let a = c.requires.x in
    let b = c.requires.w in
    omega (arith, ints)

pub overflow_add-x : goal.overflow_add-x
overflow_add-x c =
    let a = c.requires.x in
    let b = c.requires.w in
    omega (arith, ints)

pub overflow_cast-x : goal.overflow_cast-x
overflow_cast-x c =
    let a = c.requires.x in
    let b = c.requires.w in
    let near = near_passed c.args.w c.args.x b a c.if-is_far.ensures in
    let front = near.front in
    let after = near.after in
    let before = near.before in
    cast_fits _ (omega (arith, ints)) (omega (arith, ints))

pub overflow_cast-w : goal.overflow_cast-w
overflow_cast-w c =
    let a = c.requires.x in
    let b = c.requires.w in
    let near = near_passed c.args.w c.args.x b a c.if-is_far.ensures in
    let front = near.front in
    let after = near.after in
    let before = near.before in
    cast_fits _ (omega (arith, ints)) (omega (arith, ints))

pub place_below-low-requires-clause-some : goal.place_below-low-requires-clause-some
place_below-low-requires-clause-some c =
    let a = c.requires.x in
    let b = c.requires.w in
    let near = near_passed c.args.w c.args.x b a c.if-is_far.ensures in
    let front = near.front in
    let after = near.after in
    let before = near.before in
    omega (arith, ints)

pub place_below-low-requires-clause-small : goal.place_below-low-requires-clause-small
place_below-low-requires-clause-small c = passed_short c.args.w c.requires.w

pub place_below-low-requires-clause-near : goal.place_below-low-requires-clause-near
place_below-low-requires-clause-near c =
    let a = c.requires.x in
    let b = c.requires.w in
    let near = near_passed c.args.w c.args.x b a c.if-is_far.ensures in
    let front = near.front in
    let after = near.after in
    let before = near.before in
    omega (arith, ints)

pub overflow_add-result : goal.overflow_add-result
overflow_add-result c =
    let most = c.place_below-low.ensures.most in
    omega (arith, ints)

pub returns : goal.returns
returns c =
    let a = c.requires.x in
    let b = c.requires.w in
    let near = near_passed c.args.w c.args.x b a c.if-is_far.ensures in
    let front = near.front in
    let after = near.after in
    let before = near.before in
    let most = c.place_below-low.ensures.most in
    let fits : FitsSigned w64 c.place_below-low.result = search rules in
    between_units c.args.w c.args.x _ _
    (unsigned_abs (to_z w64 (of_z w64 (to_z w64 (of_z w64 c.args.x) +ℤ to_z w64 (of_z w64
    (pos 2 *ℤ to_z w64 (of_z w64 c.args.w)))))))
    (unsigned_abs (to_z w64 (of_z w64 c.args.w))) near (omega (arith, ints)) (omega (arith, ints))
    (to_z-of_z w64 c.place_below-low.result fits ∙ c.place_below-low.ensures.value) (omega (arith, ints))
