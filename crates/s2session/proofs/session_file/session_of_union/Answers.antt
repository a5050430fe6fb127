use Rattle.std.proofs.Common.{sym, ◌∙◌, arith}
use Rattle.std.proofs.lemmas.Bool.{MatchBool-at_false}
use Rattle.std.proofs.lemmas.Result.{err_from_is_err_and}
use Rattle.s2shelf.proofs.Given.{none_left}
use Rattle.s2session.proofs.Taking.{failed, joined, of_front, weaker}
use Rattle.s2session.proofs.TakingSession.{all_of, union_found, union_too_long}
use Rattle.s2session.proofs.session_file.session_of_union.Goals as goal

pub returns-in_err-has-clause-judges : goal.returns-in_err-has-clause-judges
returns-in_err-has-clause-judges g c =
    let p = err_from_is_err_and c.from_residual.result c.from_residual.ensures.1 in
    rw (p.1, p.2) (failed c.in_err-has.field-0.0 _ c.in_err-has.ensures.has
    (joined c.pieces.invariant c.in_err-has.ensures.kept))

pub returns-then-not-branch-clause-judges : goal.returns-then-not-branch-clause-judges
returns-then-not-branch-clause-judges g c =
    let few = MatchBool-at_false _ _ c.if-not-branch.true c.in_ok-has.ensures.has in
    let all = all_of c.pieces.invariant c.has.new.self c.in_ok-has.ensures.kept
    (none_left g.F.Read.remaining c.has.new.file few.1) few.0 in
    union_found c.deref.result.now c.session_of_bytes.result
    (weaker (λ bytes is. is ∙ sym c.deref.ensures.value) all) c.session_of_bytes.ensures

pub returns-in_err-extend_from_slice-clause-judges : goal.returns-in_err-extend_from_slice-clause-judges
returns-in_err-extend_from_slice-clause-judges g c =
    let p = err_from_is_err_and c.from_residual-in_err-extend_from_slice.result
    c.from_residual-in_err-extend_from_slice.ensures.1 in
    rw (p.1, p.2) (of_front (joined c.pieces.invariant c.in_ok-has.ensures.kept) (λ rest. tt))

pub returns-clause-judges : goal.returns-clause-judges
returns-clause-judges g c =
    union_too_long c.pieces.bytes.items c.pieces.invariant
    (omega (arith, c.pieces-test.false, c.len.ensures, c.pieces.bytes.ok.0))
