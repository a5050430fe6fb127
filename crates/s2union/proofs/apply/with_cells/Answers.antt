use Rattle.std.proofs.Common.{◌≡◌, ◌∙◌, ◌++◌, ◌∷◌, [], List, ℕ, ap, sym, arith, refl, take, get_or}
use Rattle.std.proofs.lemmas.List.{append_assoc, take_more, take_all}
use Rattle.s2list.proofs.Packing.{read_at}
use Rattle.s2union.proofs.apply.with_cells.Goals as goal

pub loop-k-preserved : goal.loop-k-preserved
loop-k-preserved c =
    let v = c.loop-k.invariant in
    let k = c.loop-k.k in
    let u = c.args.cells.now in
    let old = c.args.list.items in
    let x = c.index-cells-k.result in
    let e : get_or u k 0 ≡ x = read_at u k k x (omega arith) refl c.index-cells-k.is in
    let p = c.push_reserved.ensures in
    let len = p.len in
    let before = v.len in
    record {
      within = omega arith;
      len = omega arith;
      items = p.items ∙ ap (λ (l : List ℕ). l ++ x ∷ []) v.items ∙ append_assoc old (take k u) (x ∷ [])
          ∙ ap (λ y. old ++ (take k u ++ y ∷ [])) (sym e) ∙ ap (λ l. old ++ l) (sym (take_more u k 0 (omega arith)));
      room = p.capacity ∙ v.room;
    }

pub returns-clause-items : goal.returns-clause-items
returns-clause-items c = c.loop-k.invariant.items
    ∙ ap (λ l. c.args.list.items ++ l) (take_all c.loop-k.k c.args.cells.now (omega arith))
