use Rattle.std.proofs.lemmas.Result.{err_from_is_err_and}
use Rattle.s2calc.specs.Texts.{token_line}
use Rattle.s2calc.proofs.ListingLemmas.{underway_more, underway_sent, underway_part}
use Rattle.s2calc.proofs.listing.put_line.Goals as goal

pub returns-in_err-emit-clause-err : goal.returns-in_err-emit-clause-err
returns-in_err-emit-clause-err g c =
    let p = err_from_is_err_and c.from_residual.result c.from_residual.ensures.1 in
    rw p.1 (λ start text u.
    underway_part _ (underway_more (token_line c.args.cell) _ u c.append_line-end.ensures.text)
    c.in_err-emit.ensures.err)

pub returns-clause-ok : goal.returns-clause-ok
returns-clause-ok g c start text u =
    underway_sent _ (underway_more (token_line c.args.cell) _ u c.append_line-end.ensures.text)
    c.in_ok-emit.ensures.ok
