use Rattle.std.proofs.Common.{◌∙◌, ℕ, List, Err, slice_index, ap, sym}
use Rattle.std.proofs.lemmas.Bool.{MatchBool-at_true, MatchBool-at_false}
use Rattle.std.proofs.lemmas.Result.{err_from_is_err_and}
use Rattle.s2shelf.proofs.Given.{none_left}
use Rattle.s2session.specs.declared.fault.ReadFault.TheVariants.{Form}
use Rattle.s2session.proofs.Taking.{failed, joined, fresh}
use Rattle.s2session.proofs.TakingSession.{nothing_found, spells_union, spells_file, answers, behind}
use Rattle.s2session.proofs.session_file.read_form.Goals as goal

pub returns-in_err-has-clause-answer : goal.returns-in_err-has-clause-answer
returns-in_err-has-clause-answer g c =
    let p = err_from_is_err_and c.from_residual-in_err-has.result c.from_residual-in_err-has.ensures.1 in
    behind c.has.new.self (answers c.from_residual-in_err-has.result
    (rw (p.1, p.2) (failed c.in_err-has.field-0.0 _ c.in_err-has.ensures.has
    (joined (fresh c.in_ok-buffer.buffer c.in_ok-buffer.ensures) c.in_err-has.ensures.kept))))

pub returns-then-not-branch-clause-answer : goal.returns-then-not-branch-clause-answer
returns-then-not-branch-clause-answer g c =
    let few = MatchBool-at_false _ _ c.if-not-branch.true c.in_ok-has.ensures.has in
    behind c.has.new.self (answers (Err Form) (nothing_found c.has.new.self
    (joined (fresh c.in_ok-buffer.buffer c.in_ok-buffer.ensures) c.in_ok-has.ensures.kept)
    (none_left g.F.Read.remaining c.has.new.file few.1) few.0))

pub returns-then-as_slice-eq-VERSION-clause-answer : goal.returns-then-as_slice-eq-VERSION-clause-answer
returns-then-as_slice-eq-VERSION-clause-answer g c =
    let some = MatchBool-at_true _ _ c.if-not-branch.false c.in_ok-has.ensures.has in
    behind c.session_of_union.new.buffer (answers c.session_of_union.result (spells_union c.has.new.self
    (joined (fresh c.in_ok-buffer.buffer c.in_ok-buffer.ensures) c.in_ok-has.ensures.kept) some _
    c.session_of_union.result (ap (λ (l : List ℕ). slice_index l 0) (sym c.as_slice.ensures)
    ∙ c.if-as_slice-eq-VERSION.true) c.session_of_union.ensures.judges))

pub returns-clause-answer : goal.returns-clause-answer
returns-clause-answer g c =
    let some = MatchBool-at_true _ _ c.if-not-branch.false c.in_ok-has.ensures.has in
    behind c.session_of_parts.new.buffer (answers c.session_of_parts.result (spells_file c.has.new.self
    (joined (fresh c.in_ok-buffer.buffer c.in_ok-buffer.ensures) c.in_ok-has.ensures.kept) some _
    c.session_of_parts.result (λ one. c.if-as_slice-eq-VERSION.false
    (ap (λ (l : List ℕ). slice_index l 0) c.as_slice.ensures ∙ one)) c.session_of_parts.ensures.judges))
