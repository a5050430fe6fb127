use Rattle.std.proofs.Common.{◌≡◌, ℕ, ◌≤◌, List, length, map, refl, sym, ◌∙◌, subst, arith}
use Rattle.std.proofs.Math.Dec.{leb}
use Rattle.std.proofs.Math.Logic.{⊎_elim}
use Rattle.std.proofs.lemmas.Bool.{cases_lt, leb-true, le-leb}
use Rattle.std.proofs.lemmas.List.{length-map}
use Rattle.std.proofs.lemmas.Result.{err_from_is_err_and}
use Rattle.s2list.specs.Union.{Union}
use Rattle.s2edit.specs.Content.{diff_of}
use Rattle.s2edit.specs.declared.TheConstants.{SESSION_CELLS}
use Rattle.s2edit.specs.Working.Chain.{lists_of, FitAlong}
use Rattle.s2edit.specs.Leads.{list_at}
use Rattle.s2edit.specs.Working.InTurn.{of_register, FitInTurn}
use Rattle.s2edit.proofs.Following.{fails}
use Rattle.s2edit.proofs.Registers.{turn_of, not_long, follows}
use Rattle.s2edit.proofs.Tables.{list_read}
use Rattle.s2edit.proofs.restore.fit.Goals as goal

pub loop-register-init : goal.loop-register-init
loop-register-init c = λ r l. absurd (omega (arith, l))

pub returns-in_err-follow : goal.returns-in_err-follow
returns-in_err-follow c =
    let us : List Union = c.args.registers.now in
    let i = c.loop-register.register in
    let u = c.index-registers-register.result in
    let ms = map diff_of c.args.moves.now in
    let read : list_at (lists_of us) i ≡ u.cells =
    list_read us i i u c.index-registers-register.is refl c.loop-register-test.true in
    let p = err_from_is_err_and c.from_residual.result c.from_residual.ensures.1 in
    rw (p.1, p.2) (fails c.in_err-follow.field-0.0 (FitInTurn u.cells (of_register i ms))
    (FitAlong SESSION_CELLS (lists_of us) ms)
    (λ f. subst (λ (x : List ℕ). FitInTurn x (of_register i ms)) read
    (turn_of SESSION_CELLS (lists_of us) ms i f))
    c.in_err-follow.ensures)

pub loop-register-preserved : goal.loop-register-preserved
loop-register-preserved c =
    let us : List Union = c.args.registers.now in
    let i = c.loop-register.register in
    let u = c.index-registers-register.result in
    let ms = map diff_of c.args.moves.now in
    let read : list_at (lists_of us) i ≡ u.cells =
    list_read us i i u c.index-registers-register.is refl c.loop-register-test.true in
    λ r l. ⊎_elim (c.loop-register.invariant r)
    (λ (b : i ≤ r). let e : i ≡ r = omega (arith, b, l) in
    subst (λ (k : ℕ). FitInTurn (list_at (lists_of us) k) (of_register k ms)) e
    (subst (λ (x : List ℕ). FitInTurn x (of_register i ms)) (sym read) c.in_ok-follow.ensures))
    (cases_lt r i)

pub returns-then-most-gt-SESSION_CELLS : goal.returns-then-most-gt-SESSION_CELLS
returns-then-most-gt-SESSION_CELLS c =
    not_long (lists_of c.args.registers.now) (map diff_of c.args.moves.now) c.requires.within c.requires.each
    c.in_ok-most.most c.in_ok-most.ensures c.if-most-gt-SESSION_CELLS.true

pub returns : goal.returns
returns c =
    let us : List Union = c.args.registers.now in
    let count : length (lists_of us) ≡ length us = length-map us (λ (u : Union). u.cells) in
    follows (lists_of us) (map diff_of c.args.moves.now) c.requires.within c.requires.each
    c.in_ok-most.most c.in_ok-most.ensures c.args.limit (leb c.in_ok-most.most c.args.limit)
    (count ∙ c.requires.count)
    (λ r l. c.loop-register.invariant r (omega (arith, l, count, c.loop-register-test.false)))
    (omega (arith, c.if-most-gt-SESSION_CELLS.false)) (leb-true c.in_ok-most.most c.args.limit)
    (le-leb c.in_ok-most.most c.args.limit)
