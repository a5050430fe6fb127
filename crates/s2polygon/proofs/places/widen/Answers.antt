use Rattle.std.proofs.Common.{arith, subst, sym}
use Rattle.std.proofs.lemmas.Int.{ints}
use Rattle.s2polygon.specs.Working.Sizes.{IsOfPlaces}
use Rattle.s2polygon.specs.declared.places.Square.{Square}
use Rattle.s2polygon.proofs.Sides.{margin_off_read, margin_on_read, widened_is, widened_places}
use Rattle.s2polygon.proofs.places.widen.Goals as goal

pub overflow_cast-by : goal.overflow_cast-by
overflow_cast-by c = let m = c.requires.margin in omega (arith, ints)

pub overflow_sub-result : goal.overflow_sub-result
overflow_sub-result c =
    (margin_off_read c.args.q.u0 c.args.margin c.requires.face.u0 c.requires.margin).fits

pub overflow_add-result : goal.overflow_add-result
overflow_add-result c =
    (margin_on_read c.args.q.u1 c.args.margin c.requires.face.u1 c.requires.margin).fits

pub overflow_sub-result-2 : goal.overflow_sub-result-2
overflow_sub-result-2 c =
    (margin_off_read c.args.q.v0 c.args.margin c.requires.face.v0 c.requires.margin).fits

pub overflow_add-result-2 : goal.overflow_add-result-2
overflow_add-result-2 c =
    (margin_on_read c.args.q.v1 c.args.margin c.requires.face.v1 c.requires.margin).fits

pub returns-clause-value : goal.returns-clause-value
returns-clause-value c = widened_is c.args.q c.args.margin c.requires.face c.requires.margin

pub returns-clause-places : goal.returns-clause-places
returns-clause-places c =
    subst (λ (q : Square). IsOfPlaces q) (sym (widened_is c.args.q c.args.margin c.requires.face c.requires.margin))
    (widened_places c.args.q c.args.margin c.requires.face c.requires.margin)
