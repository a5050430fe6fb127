use Rattle.std.proofs.Common.{◌≡◌, Ok, Err, inl, inr, refl, rules, subst}
use Rattle.s2list.specs.Union.{has_leaf}
use Rattle.s2calc.specs.Fetch.{FetchesUnion}
use Rattle.s2calc.proofs.files.load.Goals as goal

pub returns-in-Ok : goal.returns-in-Ok
returns-in-Ok g c =
    let S = has_leaf c.in-Ok.union.cells in
    let name : c.as_str.result.now ≡ c.args.name.now = search rules in
    let fetched = subst (λ n. FetchesUnion n (g.S.Shelf.files c.args.shelf.now) (Ok S)
    (g.S.Shelf.files c.fetch_union.new.shelf)) name c.in-Ok.ensures.0 in
    inl (S, fetched, c.assign.ensures S c.in-Ok.ensures.1)

pub returns-in-Err : goal.returns-in-Err
returns-in-Err g c =
    let refusal = c.in-Err.refusal in
    let name : c.as_str.result.now ≡ c.args.name.now = search rules in
    let fails = subst (λ n. FetchesUnion n (g.S.Shelf.files c.args.shelf.now) (Err refusal)
    (g.S.Shelf.files c.fetch_union.new.shelf)) name c.in-Err.ensures in
    inr (refusal, fails, refl, refl)
