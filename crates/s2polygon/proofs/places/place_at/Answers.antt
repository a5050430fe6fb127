use Rattle.std.proofs.Common.{◌-◌, ◌*◌, ◌^◌, ◌∙◌, sym, arith}
use Rattle.std.proofs.lemmas.Int.{ints}
use Rattle.s2polygon.proofs.Along.{low, high}
use Rattle.s2polygon.proofs.PlaceSteps.{square_small, from_one, less_one}
use Rattle.s2polygon.proofs.places.place_at.Goals as goal

pub overflow_sub-rest : goal.overflow_sub-rest
overflow_sub-rest c = c.requires

pub overflow_mul-result : goal.overflow_mul-result
overflow_mul-result c = let p = square_small (2 ^ 31 - c.args.t) (omega arith) in omega arith

pub overflow_cast-result : goal.overflow_cast-result
overflow_cast-result c = let p = square_small (2 ^ 31 - c.args.t) (omega arith) in omega (arith, ints)

pub overflow_sub-result : goal.overflow_sub-result
overflow_sub-result c = (from_one ((2 ^ 31 - c.args.t) * (2 ^ 31 - c.args.t))
    (square_small (2 ^ 31 - c.args.t) (omega arith))).fits

pub overflow_mul-result-else-t : goal.overflow_mul-result-else-t
overflow_mul-result-else-t c = let p = square_small c.args.t c.requires in omega arith

pub overflow_cast-result-else-t : goal.overflow_cast-result-else-t
overflow_cast-result-else-t c = let p = square_small c.args.t c.requires in omega (arith, ints)

pub overflow_sub-result-else-t : goal.overflow_sub-result-else-t
overflow_sub-result-else-t c = (less_one (c.args.t * c.args.t) (square_small c.args.t c.requires)).fits

pub returns-then-t : goal.returns-then-t
returns-then-t c = (from_one ((2 ^ 31 - c.args.t) * (2 ^ 31 - c.args.t))
    (square_small (2 ^ 31 - c.args.t) (omega arith))).is ∙ sym (low c.args.t (omega arith))

pub returns-else-t : goal.returns-else-t
returns-else-t c = (less_one (c.args.t * c.args.t) (square_small c.args.t c.requires)).is ∙ sym
    (high c.args.t (omega arith))
