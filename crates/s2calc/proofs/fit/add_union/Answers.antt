use Rattle.std.proofs.Common.{inl}
use Rattle.std.proofs.lemmas.Result.{err_from_is_err_and}
use Rattle.s2calc.proofs.fit.add_union.Goals as goal

pub returns-in_err-union : goal.returns-in_err-union
returns-in_err-union g c =
    let p = err_from_is_err_and c.from_residual.result c.from_residual.ensures.1 in
    rw (p.1, p.2) (inl c.in_err-union.ensures)
