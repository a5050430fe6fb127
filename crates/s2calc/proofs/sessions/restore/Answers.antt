use Rattle.std.proofs.Common.{◌≡◌, Some, inl, inr, refl, rules, subst}
use Rattle.s2shelf.specs.Shelf.{Finds}
use Rattle.s2calc.specs.Sessions.{FetchesNoState}
use Rattle.s2calc.proofs.sessions.restore.Goals as goal

pub returns-in-Ok : goal.returns-in-Ok
returns-in-Ok g c =
    let (bytes, fetched, taken) = c.in-Ok.ensures.answer in
    let name : c.as_str.result.now ≡ c.args.name.now = search rules in
    let found = subst (λ n. Finds (g.S.Shelf.files c.args.shelf.now) n (Some bytes)
    (g.S.Shelf.files c.take_over_file.new.shelf)) name fetched in
    inl (bytes, found, taken, refl)

pub returns-in-Err : goal.returns-in-Err
returns-in-Err g c =
    let refusal = c.in-Err.refusal in
    let name : c.as_str.result.now ≡ c.args.name.now = search rules in
    let fails = subst (λ n. FetchesNoState n (g.S.Shelf.files c.args.shelf.now) c.args.editor.now refusal
    (g.S.Shelf.files c.take_over_file.new.shelf)) name c.in-Err.ensures.answer in
    inr (refusal, fails, refl, c.in-Err.ensures.err)
