use Rattle.std.proofs.Common.{◌≡◌, ◌<◌, ◌++◌, ◌∷◌, ◌∙◌, [], All, ap, arith, inr, length, refl, rules}
use Rattle.std.proofs.Common.{slice_index, subst, sym, take}
use Rattle.std.proofs.lemmas.List.{take_all, take_more}
use Rattle.std.proofs.lemmas.List.Elements.{All-push}
use Rattle.s2cell.specs.Cell.{IsCell}
use Rattle.s2file.specs.Numbers.{numbers_in}
use Rattle.s2file.proofs.union_file.cells_of.Goals as goal

pub returns-in-None : goal.returns-in-None
returns-in-None c =
    let many = c.len-len.ensures in
    inr (
      refl,
      record {
        place = c.loop-k.k;
        within = omega (arith, c.loop-k-test.true);
        wrong = λ cell. c.in-None.ensures (rw c.id.ensures cell);
      },
    )

pub loop-k-preserved : goal.loop-k-preserved
loop-k-preserved c =
    let ids = numbers_in c.args.numbers.now in
    let k = c.loop-k.k in
    let many = c.len-len.ensures in
    let within : k < length ids = omega (arith, c.loop-k-test.true) in
    let next : c.in-Some.cell ≡ slice_index ids k = c.in-Some.ensures.1 ∙ c.id.ensures in
    record {
      read = c.push_reserved.ensures.items ∙ ap (λ l. l ++ c.in-Some.cell ∷ []) c.loop-k.invariant.read
          ∙ ap (λ n. take k ids ++ n ∷ []) next ∙ sym (take_more ids k 0 within);
      cells = rw c.push_reserved.ensures.items
          (All-push IsCell c.loop-k.cells.items c.in-Some.cell c.loop-k.invariant.cells (search rules));
      room = search rules;
    }

pub returns : goal.returns
returns c =
    let ids = numbers_in c.args.numbers.now in
    let many = c.len-len.ensures in
    let whole : c.loop-k.cells.items ≡ ids = c.loop-k.invariant.read
    ∙ take_all c.loop-k.k ids (omega (arith, c.loop-k-test.false)) in
    (whole, subst (All IsCell) whole c.loop-k.invariant.cells)
