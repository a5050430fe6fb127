use Rattle.std.proofs.Common.{[], ◌∷◌, ◌++◌}
use Rattle.s2union_c.proofs.Naming.{naming_start, naming_more, nameless_at}
use Rattle.s2union_c.proofs.token_lists.count_cells.Goals as goal

pub loop-start-init : goal.loop-start-init
loop-start-init c = ([], naming_start c.args.text.now)

pub returns-in_default-cell_in : goal.returns-in_default-cell_in
returns-in_default-cell_in c =
    let v = c.loop-start.invariant in
    nameless_at c.args.text.now c.loop-start.at c.loop-start.count v.0 c.in-Some.start c.in-Some.end v.1
    c.in-Some.ensures
    (λ id names. c.in_default-cell_in.ensures id names)

pub loop-start-preserved : goal.loop-start-preserved
loop-start-preserved c =
    let v = c.loop-start.invariant in
    let id = c.in-Some-cell_in.cell in (
      v.0 ++ id ∷ [],
      naming_more c.args.text.now c.loop-start.at c.loop-start.count v.0 c.in-Some.start c.in-Some.end id v.1
          c.in-Some.ensures c.in-Some-cell_in.ensures,
    )
