use Rattle.std.proofs.Common.{arith, ap, sym, subst, ℕ, List, All, length, ◌<◌}
use Rattle.std.proofs.lemmas.Result.{err_from_is_err_and}
use Rattle.s2polygon.specs.Descents.{near_of, picked}
use Rattle.s2polygon.proofs.Descents.{odd_below, met_below}
use Rattle.s2polygon.proofs.descent.descend.Goals as goal

pub step_at-requires-clause-k : goal.step_at-requires-clause-k
step_at-requires-clause-k c = c.requires.k

pub step_at-requires-clause-i : goal.step_at-requires-clause-i
step_at-requires-clause-i c = c.requires.i

pub step_at-requires-clause-j : goal.step_at-requires-clause-j
step_at-requires-clause-j c = c.requires.j

pub square_at-requires-clause-k : goal.square_at-requires-clause-k
square_at-requires-clause-k c = omega (arith, c.requires.k)

pub square_at-requires-clause-i : goal.square_at-requires-clause-i
square_at-requires-clause-i c = c.requires.i

pub square_at-requires-clause-j : goal.square_at-requires-clause-j
square_at-requires-clause-j c = c.requires.j

pub square_at-requires-clause-margin : goal.square_at-requires-clause-margin
square_at-requires-clause-margin c = c.requires.margin

pub sifted-requires-clause-framed : goal.sifted-requires-clause-framed
sifted-requires-clause-framed c = c.requires.framed

pub sifted-requires-clause-within : goal.sifted-requires-clause-within
sifted-requires-clause-within c =
    subst (λ (l : List ℕ). All (λ n. n < length c.args.all.now) l) (sym c.deref.ensures.value) c.requires.within

pub sifted-requires-clause-step : goal.sifted-requires-clause-step
sifted-requires-clause-step c = c.step_at.ensures.places

pub sifted-requires-clause-square : goal.sifted-requires-clause-square
sifted-requires-clause-square c = c.square_at.ensures.places

pub returns-in_err-found-clause-right : goal.returns-in_err-found-clause-right
returns-in_err-found-clause-right c =
    let p = err_from_is_err_and c.from_residual.result c.from_residual.ensures.1 in
    λ top edges n right. rw p.1 tt

pub returns-clause-right : goal.returns-clause-right
returns-clause-right c =
    let all = c.args.all.now in
    let same = ap (picked all) c.deref.ensures.value in
    λ top edges n right. record {
      odd = odd_below c.args.margin top edges n c.args.k c.args.i c.args.j (near_of all c.args.parent.now) right
          (picked all c.deref.result.now) same c.step_at.result c.in_ok-found.found.odd c.step_at.ensures.value
          c.in_ok-found.ensures.odd;
      met = met_below c.args.margin top edges n c.args.k c.args.i c.args.j (near_of all c.args.parent.now) right
          (picked all c.deref.result.now) same c.square_at.result (picked all c.in_ok-found.found.edges.items)
          c.square_at.ensures.value c.in_ok-found.ensures.met;
    }

pub returns-clause-within : goal.returns-clause-within
returns-clause-within c = c.in_ok-found.ensures.within

pub returns-in_err-found-clause-within : goal.returns-in_err-found-clause-within
returns-in_err-found-clause-within c =
    let p = err_from_is_err_and c.from_residual.result c.from_residual.ensures.1 in
    rw p.1 tt
