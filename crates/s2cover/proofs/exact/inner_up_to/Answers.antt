use Rattle.std.proofs.lemmas.Result.{IfOk-weaker}
use Rattle.s2cover.proofs.Exactness.{exact_inner}
use Rattle.s2cover.proofs.exact.inner_up_to.Goals as goal

pub returns : goal.returns
returns g c =
    let r = c.args.region.now in
    let o = g.R.Quartered.outer r in
    let i = g.R.Quartered.inner r in
    let w = g.R.Quartered.work r in
    let made = c.rough_inner_up_to in
    let e = made.ensures in
    record {
      leaves = IfOk-weaker made.result _ _ (λ u h x v. (h x v).1) e.leaves;
      near = IfOk-weaker made.result _ _ (λ u f. exact_inner o i w u.cells f) e.near;
      within = e.within;
      level = e.level;
      local = e.local;
    }
